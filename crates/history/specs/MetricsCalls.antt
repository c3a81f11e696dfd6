-- The public calls on an `MmpMetrics`, and the table that gives each the definition which its function's contract cites. Definitions only.
use Rattle.std.specs.Prelude.{ℕ}
use Rattle.wire.specs.declared.receiver_report.ReceiverReport.{ReceiverReport}
use Rattle.metrics.specs.State.{keeps_the_rule, fresh}
use Rattle.metrics.specs.Reports.{process_of}
use Rattle.metrics.specs.Updates.{rekey_of, reverse_of}
use Rattle.metrics.specs.Accessors.{
  srtt_ms_of,
  loss_rate_of,
  smoothed_loss_of,
  quality_index_of,
  smoothed_etx_of,
  goodput_bps_of,
  last_ecn_ce_count_of,
  rr_counters_of,
  reports_seen_of,
  rtt_samples_of,
  rtt_zero_of,
  rtt_arith_fail_of,
  stale_reports_of,
  no_echo_reports_of,
  last_rtt_ms_of,
}
use Rattle.metrics.specs.declared.MmpMetrics.{MmpMetrics}
use Rattle.refusals.specs.Answers.{Update}
use Rattle.history.specs.Run.{Step}
use Rattle.history.specs.Answers.{Answer, Told, staying}
use Rattle.history.specs.Tellings as told

-- ---- a new record: each constructor
pub data MetricsNew : Type 0 where
  new default : MetricsNew

abbrev pub new_metrics : MetricsNew → MmpMetrics
new_metrics new = fresh
new_metrics default = fresh

-- ---- questions: they move nothing. The counts of reports seen and of stale ones are asked apart, since striking out changes them
pub data MetricsQuestion : Type 0 where
  keeps_rule : MetricsQuestion
  srtt_ms loss_rate smoothed_loss quality_index smoothed_etx goodput_bps last_ecn_ce_count rr_counters : MetricsQuestion
  rtt_samples rtt_zero rtt_arith_fail no_echo_reports last_rtt_ms : MetricsQuestion

unfoldable pub metrics_told : MetricsQuestion → MmpMetrics → Told
metrics_told keeps_rule m = told.rule (keeps_the_rule m)
metrics_told srtt_ms m = told.optional_f64 (srtt_ms_of m)
metrics_told loss_rate m = told.f64 (loss_rate_of m)
metrics_told smoothed_loss m = told.optional_f64 (smoothed_loss_of m)
metrics_told quality_index m = told.optional_f64 (quality_index_of m)
metrics_told smoothed_etx m = told.optional_f64 (smoothed_etx_of m)
metrics_told goodput_bps m = told.f64 (goodput_bps_of m)
metrics_told last_ecn_ce_count m = told.u32 (last_ecn_ce_count_of m)
metrics_told rr_counters m = told.counters (rr_counters_of m)
metrics_told rtt_samples m = told.u64 (rtt_samples_of m)
metrics_told rtt_zero m = told.u64 (rtt_zero_of m)
metrics_told rtt_arith_fail m = told.u64 (rtt_arith_fail_of m)
metrics_told no_echo_reports m = told.u64 (no_echo_reports_of m)
metrics_told last_rtt_ms m = told.optional_u32 (last_rtt_ms_of m)

-- ---- the calls, with their arguments in the functions' order
pub data MetricsCall : Type 0 where
  process_receiver_report : ReceiverReport → ℕ → ℕ → MetricsCall
  reset_for_rekey : MetricsCall
  update_reverse_delivery : ℕ → ℕ → MetricsCall
  reports_seen stale_reports : MetricsCall
  ask : MetricsQuestion → MetricsCall

-- a call that hands back a record and no more
abbrev pub updating : Update MmpMetrics → Step Answer MmpMetrics
updating u = record { refusal = u.refusal; answer = Answer.nothing; state = u.state }

unfoldable pub metrics_step : MetricsCall → MmpMetrics → Step Answer MmpMetrics
metrics_step (process_receiver_report rr ours now) m =
    record { refusal = (process_of m rr ours now).refusal; answer = Answer.outcome (process_of m rr ours now).outcome; state = (process_of m rr ours now).state }
metrics_step reset_for_rekey m = updating (rekey_of m)
metrics_step (update_reverse_delivery packets highest) m = updating (reverse_of m packets highest)
metrics_step reports_seen m = staying m (told.u64 (reports_seen_of m))
metrics_step stale_reports m = staying m (told.u64 (stale_reports_of m))
metrics_step (ask q) m = staying m (metrics_told q m)
