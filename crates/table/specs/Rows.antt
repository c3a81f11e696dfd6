-- Document 01, "Promises and the checked examples": its twelve rows, in its order, each by the definitions that the functions' contracts cite.
-- Definitions only.
use Rattle.std.specs.Prelude.{false, cond, ℕ, ◌^◌, ◌-◌, ℤ, pos, negsuc, Float, Some}
use mathlib.Core.List.{List, [], ◌∷◌, foldl}
use Rattle.std.specs.Float.{fin}
use Rattle.floats.specs.Operations as floats
use Rattle.floats.specs.Operations.{zero_float, one_float}
use Rattle.wire.specs.declared.receiver_report.ReceiverReport.{ReceiverReport}
use Rattle.algorithms.specs.Jitter as jitters
use Rattle.algorithms.specs.Srtt as estimators
use Rattle.algorithms.specs.Etx.{etx_answer}
use Rattle.algorithms.specs.OwdTrend.{trend_answer}
use Rattle.algorithms.specs.declared.jitter.JitterEstimator.{JitterEstimator}
use Rattle.algorithms.specs.declared.srtt.SrttEstimator.{SrttEstimator}
use Rattle.gaps.specs.Gaps as gaps
use Rattle.gaps.specs.Stats.{stats_of}
use Rattle.gaps.specs.declared.GapTracker.{GapTracker}
use Rattle.gaps.specs.declared.IntervalStats.{IntervalStats}
use Rattle.samples.specs.Echo.{echo_of}
use Rattle.samples.specs.Transit.{in_grace}
use Rattle.sender.specs.Backoff.{backoff}
use Rattle.receiver.specs.State as receiver
use Rattle.figures.specs.RoundTrips.{round_trip}
use Rattle.figures.specs.declared.RoundTrip.{RoundTrip}
use Rattle.figures.specs.declared.RoundTrip.TheVariants.{NoEcho, Sample, Zero, ArithFail}
use Rattle.table.specs.Cells.{whole, signed, float, Row}

-- ---- what the rows are worked out with
-- scaled jitter and reported jitter
abbrev scaled : JitterEstimator → ℤ
scaled j = j.jitter_q4

abbrev reported : JitterEstimator → ℕ
reported j = (jitters.jitter_us_of j).value

-- a new estimator after differences, and after round trips
abbrev differences : List ℤ → JitterEstimator
differences = foldl jitters.stepped jitters.fresh

abbrev trips : List ℤ → SrttEstimator
trips = foldl estimators.stepped estimators.fresh

-- what a report says of the bursts between these counters
abbrev bursts : List ℕ → IntervalStats
bursts counters = stats_of (foldl (λ (t : GapTracker) (counter : ℕ). (gaps.observed t counter).tracker) gaps.fresh counters)

-- a report with this echo and dwell
abbrev echoing : ℕ → ℕ → ReceiverReport
echoing echo dwell =
    record {
      highest_counter = 0;
      cumulative_packets_recv = 0;
      cumulative_bytes_recv = 0;
      timestamp_echo = echo;
      dwell_time = dwell;
      max_burst_loss = 0;
      mean_burst_loss = 0;
      jitter = 0;
      ecn_ce_count = 0;
      owd_trend = pos 0;
      burst_loss_count = 0;
      cumulative_reorder_count = 0;
      interval_packets_recv = 0;
      interval_bytes_recv = 0;
    }

-- the cases of a round trip by number: 0 no echo, 1 a sample, 2 zero, 3 an arithmetic failure; and the milliseconds of a sample
abbrev case : RoundTrip → ℕ
case NoEcho = 0
case (Sample ms) = 1
case Zero = 2
case ArithFail = 3

abbrev milliseconds : RoundTrip → ℕ
milliseconds NoEcho = 0
milliseconds (Sample ms) = ms
milliseconds Zero = 0
milliseconds ArithFail = 0

-- whether a sample at this time is in the grace of a rekey at 10,000
abbrev grace_at : ℕ → ℕ
grace_at now = cond (in_grace (receiver.rekey_of receiver.fresh 10000).state.rekey_jitter_grace_until_ms now) 1 0

-- 0.5
abbrev half_float : Float
half_float = fin false 1 (negsuc 0)

-- ---- the table
abbrev pub table : List Row
table =
    -- J 0, D 16, then 0: J 16, then 15; reported 1, 0
    (
    signed (scaled (differences (pos 16 ∷ []))) (pos 16)
    ∷ signed (scaled (differences (pos 16 ∷ pos 0 ∷ []))) (pos 15)
    ∷ whole (reported (differences (pos 16 ∷ []))) 1
    ∷ whole (reported (differences (pos 16 ∷ pos 0 ∷ []))) 0
    ∷ []
    )
    -- J 0, D −2^31: reported 134217728
    ∷ (whole (reported (differences (negsuc (2 ^ 31 - 1) ∷ []))) 134217728 ∷ [])
    -- RTT 3000, 11000, 3000 µs: SRTT 3000, 4000, 3875; RTTVAR 1500, 3125, 2594
    ∷ (
    signed (trips (pos 3000 ∷ [])).srtt_us (pos 3000)
    ∷ signed (trips (pos 3000 ∷ pos 11000 ∷ [])).srtt_us (pos 4000)
    ∷ signed (trips (pos 3000 ∷ pos 11000 ∷ pos 3000 ∷ [])).srtt_us (pos 3875)
    ∷ signed (trips (pos 3000 ∷ [])).rttvar_us (pos 1500)
    ∷ signed (trips (pos 3000 ∷ pos 11000 ∷ [])).rttvar_us (pos 3125)
    ∷ signed (trips (pos 3000 ∷ pos 11000 ∷ pos 3000 ∷ [])).rttvar_us (pos 2594)
    ∷ []
    )
    -- counters 0, 4, 5, 9: 2 bursts, max 3, mean 768
    ∷ (
    whole (bursts (0 ∷ 4 ∷ 5 ∷ 9 ∷ [])).count 2
    ∷ whole (bursts (0 ∷ 4 ∷ 5 ∷ 9 ∷ [])).max 3
    ∷ whole (bursts (0 ∷ 4 ∷ 5 ∷ 9 ∷ [])).mean 768
    ∷ []
    )
    -- counters 0, 2, 4: 1 burst, max 2, mean 512
    ∷ (
    whole (bursts (0 ∷ 2 ∷ 4 ∷ [])).count 1
    ∷ whole (bursts (0 ∷ 2 ∷ 4 ∷ [])).max 2
    ∷ whole (bursts (0 ∷ 2 ∷ 4 ∷ [])).mean 512
    ∷ []
    )
    -- counters 0, 65537, as document 02, W-201, has it: 1 burst, max 65,535, mean 65,535
    ∷ (
    whole (bursts (0 ∷ 65537 ∷ [])).count 1
    ∷ whole (bursts (0 ∷ 65537 ∷ [])).max 65535
    ∷ whole (bursts (0 ∷ 65537 ∷ [])).mean 65535
    ∷ []
    )
    -- echo 1000, dwell 20, ours 1030 / 1020 / 1019: 10 ms / zero / arithmetic failure
    ∷ (
    whole (case (round_trip (echoing 1000 20) 1030)) 1
    ∷ whole (milliseconds (round_trip (echoing 1000 20) 1030)) 10
    ∷ whole (case (round_trip (echoing 1000 20) 1020)) 2
    ∷ whole (case (round_trip (echoing 1000 20) 1019)) 3
    ∷ []
    )
    -- dwell 65535 / 65536: echo kept / echo 0, dwell 65535
    ∷ (
    whole (echo_of (Some 0) 7 65535).timestamp_echo 7
    ∷ whole (echo_of (Some 0) 7 65535).dwell_time 65535
    ∷ whole (echo_of (Some 0) 7 65536).timestamp_echo 0
    ∷ whole (echo_of (Some 0) 7 65536).dwell_time 65535
    ∷ []
    )
    -- ratios 0.5, 0.5 / 0, 1: ETX 4 / 100
    ∷ (
    float (etx_answer half_float half_float).value (floats.float 4 0)
    ∷ float (etx_answer zero_float one_float).value (floats.float 100 0)
    ∷ []
    )
    -- pairs (0 ms, 0 µs), (1000, 1000): trend 1000
    ∷ (signed (trend_answer (record { capacity = 2; count = 2; first = 0 }) (0 ∷ 1000 ∷ []) (pos 0 ∷ pos 1000 ∷ [])).value (pos 1000) ∷ [])
    -- rekey 10000, sample 24999 / 25000: in grace / out
    ∷ (whole (grace_at 24999) 1 ∷ whole (grace_at 25000) 0 ∷ [])
    -- 5 / 6 failures: times 32 / 32
    ∷ (whole (backoff 5) 32 ∷ whole (backoff 6) 32 ∷ [])
    ∷ []
