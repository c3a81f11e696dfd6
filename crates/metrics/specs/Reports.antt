-- A receiver report processed, in the order of `process_receiver_report`: document 01, "Round trip, ratios and trends". Definitions only.
use Rattle.std.specs.Prelude.{Bool, true, false, cond, not, ◌&&◌, [], ◌∷◌, ℕ, ◌+◌, ◌-◌, ◌^◌, ◌<◌, eqb, ltb, pos, Float, Some, Result}
use Rattle.std.specs.Float.{binary64}
use Rattle.std.specs.Float.Ieee.{of_int}
use Rattle.floats.specs.Operations.{complement}
use Rattle.refusals.specs.Answers.{settled_with}
use Rattle.refusals.specs.Questions.{question, first_no}
use Rattle.refusals.specs.declared.refusal.Refused.{Refused}
use Rattle.refusals.specs.Ranges.{clock_ok, counter_ok}
use Rattle.wire.specs.declared.receiver_report.ReceiverReport.{ReceiverReport}
use Rattle.algorithms.specs.Etx.{etx_of}
use Rattle.algorithms.specs.Ewma as ewma
use Rattle.algorithms.specs.Srtt as estimator
use Rattle.figures.specs.Delivery.{delivery_ratio}
use Rattle.figures.specs.Goodput.{goodput_after}
use Rattle.figures.specs.RoundTrips.{round_trip, sample_us, milliseconds_of}
use Rattle.figures.specs.Stale.{counters_of, stale}
use Rattle.figures.specs.declared.RoundTrip.{RoundTrip}
use Rattle.figures.specs.declared.RoundTrip.TheVariants.{NoEcho, Sample, Zero, ArithFail}
use Rattle.metrics.specs.Fields.{with_rtt, with_trends, with_ratios, with_kept, tallies_in, with_tallies, one_seen, one_stale, one_no_echo, one_sample, one_zero, one_failure}
use Rattle.metrics.specs.State.{keeps_the_rule, saved_in}
use Rattle.metrics.specs.declared.MmpMetrics.{MmpMetrics}
use Rattle.metrics.specs.declared.Outcome.{Outcome}
use Rattle.metrics.specs.declared.RrLog.{RrLog}
use Rattle.metrics.specs.declared.RrLog.TheVariants as log

-- a report's refusal, the record after it, and what became of the report
pub record ReportProcessed : Type 0 where
  pub refusal : ℕ
  pub state : MmpMetrics
  pub outcome : Outcome

-- ---- reports seen, stale ones too
unfoldable pub counted : MmpMetrics → MmpMetrics
counted m = with_tallies m (one_seen (tallies_in m))

-- and the stale ones
unfoldable pub stale_counted : MmpMetrics → MmpMetrics
stale_counted m = with_tallies m (one_stale (tallies_in m))

-- ---- the round trip
-- a sample moves SRTT, RTTVAR and the trend; it is the last
unfoldable pub sampled : MmpMetrics → ℕ → MmpMetrics
sampled m ms =
    with_tallies
    (with_rtt m (record {
      estimator = estimator.stepped m.srtt (pos (sample_us ms));
      trend = ewma.stepped m.rtt_trend (of_int binary64 (pos (sample_us ms)));
      last = Some ms;
    }))
    (one_sample (tallies_in m))

-- one more of each kind fits
pub record Room (m : MmpMetrics) : Type 0 where
  pub stale : m.stale_reports + 1 < 2 ^ 64
  pub no_echo : m.no_echo_reports + 1 < 2 ^ 64
  pub samples : m.rtt_samples + 1 < 2 ^ 64
  pub zeros : m.rtt_zero + 1 < 2 ^ 64
  pub failures : m.rtt_arith_fail + 1 < 2 ^ 64

-- any other fresh report is counted alone
unfoldable pub rtt_updated : MmpMetrics → RoundTrip → MmpMetrics
rtt_updated m NoEcho = with_tallies m (one_no_echo (tallies_in m))
rtt_updated m (Sample ms) = sampled m ms
rtt_updated m Zero = with_tallies m (one_zero (tallies_in m))
rtt_updated m ArithFail = with_tallies m (one_failure (tallies_in m))

-- "An RTT log entry carries the whole milliseconds and the SRTT from before the sample", in ms
unfoldable pub rtt_log : MmpMetrics → RoundTrip → RrLog
rtt_log m NoEcho = log.None
rtt_log m (Sample ms) = log.RttSample ms (milliseconds_of m.srtt.srtt_us)
rtt_log m Zero = log.InvalidRtt
rtt_log m ArithFail = log.InvalidRtt

-- ---- delivery: the forward ratio, the loss trend by it, ETX, and ETX's trend
abbrev pub with_forward : MmpMetrics → Float → MmpMetrics
with_forward m ratio =
    let e = etx_of ratio m.delivery_ratio_reverse in
    with_trends
    (with_ratios m (record { forward = ratio; reverse = m.delivery_ratio_reverse; etx = e; goodput = m.goodput_bps }))
    (record {
      loss = ewma.stepped m.loss_trend (complement binary64 ratio);
      goodput = m.goodput_trend;
      jitter = m.jitter_trend;
      etx = ewma.stepped m.etx_trend e;
    })

-- where a report is kept and the highest counter rose; a count that fell counts as 0
unfoldable pub delivery_updated : MmpMetrics → ReceiverReport → MmpMetrics
delivery_updated m rr =
    cond (m.has_prev_rr && ltb 0 (rr.highest_counter - m.prev_rr_highest_counter))
    (with_forward m (delivery_ratio (rr.cumulative_packets_recv - m.prev_rr_cum_packets) (rr.highest_counter - m.prev_rr_highest_counter)))
    m

-- ---- goodput: its trend by the bytes since the report kept, and bytes per second
abbrev pub with_bytes : MmpMetrics → ℕ → ℕ → MmpMetrics
with_bytes m bytes now =
    with_trends
    (with_ratios m (record {
      forward = m.delivery_ratio_forward;
      reverse = m.delivery_ratio_reverse;
      etx = m.etx;
      goodput = goodput_after m.goodput_bps bytes m.prev_rr_ms now;
    }))
    (record { loss = m.loss_trend; goodput = ewma.stepped m.goodput_trend (of_int binary64 (pos bytes)); jitter = m.jitter_trend; etx = m.etx_trend })

unfoldable pub goodput_updated : MmpMetrics → ReceiverReport → ℕ → MmpMetrics
goodput_updated m rr now = cond m.has_prev_rr (with_bytes m (rr.cumulative_bytes_recv - m.prev_rr_cum_bytes) now) m

-- ---- the jitter trend
unfoldable pub jitter_trend_updated : MmpMetrics → ReceiverReport → MmpMetrics
jitter_trend_updated m rr =
    with_trends m
    (record { loss = m.loss_trend; goodput = m.goodput_trend; jitter = ewma.stepped m.jitter_trend (of_int binary64 (pos rr.jitter)); etx = m.etx_trend })

-- ---- the saved counters, with the report's time
unfoldable pub counters_saved : MmpMetrics → ReceiverReport → ℕ → MmpMetrics
counters_saved m rr now = with_kept m (record { counters = counters_of rr; ms = Some now; has = true })

-- ---- the whole, of a record whose report is counted
-- what follows the round trip
unfoldable pub traffic_updated : MmpMetrics → ReceiverReport → ℕ → MmpMetrics
traffic_updated m rr now = counters_saved (jitter_trend_updated (goodput_updated (delivery_updated m rr) rr now) rr) rr now

-- a report that is not stale
unfoldable pub newer_state : MmpMetrics → ReceiverReport → ℕ → ℕ → MmpMetrics
newer_state m rr ours now = traffic_updated (rtt_updated m (round_trip rr ours)) rr now

-- the outcome: whether SRTT has just become known, and beside it the log entry
abbrev pub outcome_of : Bool → RrLog → Outcome
outcome_of first entry = record { first_srtt = first; log = entry }

abbrev pub answered : ℕ → MmpMetrics → Outcome → ReportProcessed
answered n m o = record { refusal = n; state = m; outcome = o }

abbrev pub newer_outcome : MmpMetrics → ReceiverReport → ℕ → ℕ → Outcome
newer_outcome m rr ours now = outcome_of (not m.srtt.initialized && (newer_state m rr ours now).srtt.initialized) (rtt_log m (round_trip rr ours))

abbrev pub newer_report : MmpMetrics → ReceiverReport → ℕ → ℕ → ReportProcessed
newer_report m rr ours now = answered 0 (newer_state m rr ours now) (newer_outcome m rr ours now)

-- a stale report is counted, and moves nothing
abbrev pub stale_report : MmpMetrics → ReportProcessed
stale_report m = answered 0 (stale_counted m) (outcome_of false (log.Stale m.prev_rr_highest_counter m.prev_rr_cum_packets m.prev_rr_cum_bytes))

unfoldable pub processed : MmpMetrics → ReceiverReport → ℕ → ℕ → ReportProcessed
processed m rr ours now = cond (stale (saved_in m) rr) (stale_report m) (newer_report m rr ours now)

-- ---- after the questions
-- document 01, questions 1, 2 and 10. 8 is not asked: each round trip here is in its range
unfoldable pub process_refusal : MmpMetrics → ℕ → ℕ
process_refusal m now = first_no (question 1 (keeps_the_rule m) ∷ question 2 (clock_ok now) ∷ question 10 (counter_ok 64 m.reports_seen 1) ∷ [])

abbrev pub refused : ℕ → MmpMetrics → ReportProcessed
refused n m = answered n m (outcome_of false log.None)

unfoldable pub process_of : MmpMetrics → ReceiverReport → ℕ → ℕ → ReportProcessed
process_of m rr ours now = cond (eqb (process_refusal m now) 0) (processed (counted m) rr ours now) (refused (process_refusal m now) m)

-- the same as the call's result
abbrev pub reported : ReportProcessed → Result (MmpMetrics × Outcome) (Refused MmpMetrics)
reported p = settled_with p.refusal p.state p.outcome
