-- Document 01, "State rule", of each record and of what stands in it. Definitions only.
use Rattle.std.specs.Prelude.{Bool, true, cond, not, ◌&&◌, ◌||◌, ℕ, ◌+◌, ◌-◌, ◌*◌, ◌≤◌, leb, ltb, eqb, Float, None, Option, Some}
use Rattle.algorithms.specs.declared.jitter.JitterEstimator.{JitterEstimator}
use Rattle.algorithms.specs.declared.srtt.SrttEstimator.{SrttEstimator}
use Rattle.algorithms.specs.declared.ewma.DualEwma.{DualEwma}
use Rattle.algorithms.specs.declared.owd.OwdTrendDetector.{OwdTrendDetector}
use Rattle.algorithms.specs.declared.spin.SpinBitState.{SpinBitState}
use Rattle.gaps.specs.declared.GapTracker.{GapTracker}
use Rattle.samples.specs.declared.delay.OwdBase.{OwdBase}
use Rattle.sender.specs.declared.SenderState.{SenderState}
use Rattle.receiver.specs.declared.ReceiverState.{ReceiverState}
use Rattle.metrics.specs.declared.MmpMetrics.{MmpMetrics}
use Rattle.sentences.specs.Capacity.{least, greatest}
use Rattle.sentences.specs.Checks.{up_to, between, clock, ratio, etx}

-- "Clock fields and the report interval obey question 2"
abbrev pub optional_clock : Option ℕ → Bool
optional_clock None = true
optional_clock (Some ms) = clock ms

-- "a grace deadline may be 15,000 ms higher"
abbrev pub deadline : Option ℕ → Bool
deadline None = true
deadline (Some ms) = leb ms 281474976725655

-- "Capacity is clamped to 2 to 256, and the state rule follows": document 02, W-202; "live count at most capacity, first slot below it"
abbrev pub window : OwdTrendDetector → Bool
window w = leb least w.capacity && leb w.capacity greatest && leb w.count w.capacity && ltb w.first w.capacity

-- "the OWD reference is absent or a valid pair"
abbrev pub reference_pair : Option OwdBase → Bool
reference_pair None = true
reference_pair (Some base) = clock base.recv_ms

-- "Scaled jitter is 0 to 2^35"
abbrev pub jitter : JitterEstimator → Bool
jitter j = up_to 34359738368 j.jitter_q4

-- "Outside a burst its current length is 0; inside one the burst count is at least 1. Total burst length is at most 65,535 × finished bursts"
abbrev pub finished : Bool → ℕ → ℕ
finished underway count = cond underway (count - 1) count

abbrev pub bursts : GapTracker → Bool
bursts t =
    (t.in_burst || eqb t.current_burst_len 0)
    && (not t.in_burst || leb 1 t.burst_count)
    && leb t.total_burst_len (65535 * finished t.in_burst t.burst_count)

-- "SRTT and RTTVAR are 0 to 2^42"
abbrev pub estimator : SrttEstimator → Bool
estimator e = up_to 4398046511104 e.srtt_us && up_to 4398046511104 e.rttvar_us

-- "ratios 0 to 1; ETX 1 to 100", as question 11 has them; "trends 0 to 2^64; goodput 0 to 2^74"
abbrev pub trend : DualEwma → Bool
trend t = between 0 0 1 64 t.short && between 0 0 1 64 t.long

abbrev pub goodput : Float → Bool
goodput = between 0 0 1 74

-- ---- the records
unfoldable pub spin_rule : SpinBitState → Bool
spin_rule s = optional_clock s.last_edge_ms

-- where no report was made there is no clock
unfoldable pub sender_rule : SenderState → Bool
sender_rule s = (not s.has_last_report || clock s.last_report_ms) && clock s.report_interval_ms

-- with "Reorders do not exceed lifetime packets"
unfoldable pub receiver_rule : ReceiverState → Bool
receiver_rule s =
    optional_clock s.last_recv_ms
    && optional_clock s.last_report_ms
    && clock s.report_interval_ms
    && deadline s.rekey_jitter_grace_until_ms
    && jitter s.jitter
    && window s.owd_trend
    && reference_pair s.owd_ref
    && bursts s.gap_tracker
    && leb s.cumulative_reorder_count s.cumulative_packets_recv

-- with document 02, W-205, "Each of the five kinds (stale, no echo, sample, zero, arithmetic failure)", "and their sum equals reports seen. The state rule requires
-- that sum": of numbers, so that no sum wraps
unfoldable pub metrics_rule : MmpMetrics → Bool
metrics_rule m =
    optional_clock m.prev_rr_ms
    && estimator m.srtt
    && (trend m.rtt_trend && trend m.loss_trend && trend m.goodput_trend && trend m.jitter_trend && trend m.etx_trend)
    && (ratio m.delivery_ratio_forward && ratio m.delivery_ratio_reverse && etx m.etx && goodput m.goodput_bps)
    && eqb (m.stale_reports + m.no_echo_reports + m.rtt_samples + m.rtt_zero + m.rtt_arith_fail) m.reports_seen

-- so that no kind is full before reports seen, of which alone question 10 asks
pub record NoneAbove (m : MmpMetrics) : Type 0 where
  pub stale : m.stale_reports ≤ m.reports_seen
  pub no_echo : m.no_echo_reports ≤ m.reports_seen
  pub samples : m.rtt_samples ≤ m.reports_seen
  pub zeros : m.rtt_zero ≤ m.reports_seen
  pub failures : m.rtt_arith_fail ≤ m.reports_seen
