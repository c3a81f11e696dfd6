-- From the contract of each public call on an `MmpMetrics` follows its row of `MetricsCalls`. `Learnt κs a r s` is the contract, of the arguments a, the result r and
-- the lent memory at exit s; the row is the step of the record passed.
use mathlib.Core.Path.{◌≡◌, refl, ap, ◌∙◌}
use Rattle.metrics.proofs.MmpMetrics.new.Reads as new
use Rattle.metrics.proofs.MmpMetricsDefault.default.Reads as default
use Rattle.metrics.proofs.MmpMetrics.process_receiver_report.Reads as process-receiver-report
use Rattle.metrics.proofs.MmpMetrics.reset_for_rekey.Reads as reset-for-rekey
use Rattle.metrics.proofs.MmpMetrics.update_reverse_delivery.Reads as update-reverse-delivery
use Rattle.metrics.proofs.MmpMetrics.reports_seen.Reads as reports-seen
use Rattle.metrics.proofs.MmpMetrics.stale_reports.Reads as stale-reports
use Rattle.metrics.proofs.MmpMetrics.no_echo_reports.Reads as no-echo-reports
use Rattle.metrics.proofs.MmpMetrics.keeps_rule.Reads as keeps-rule
use Rattle.metrics.proofs.MmpMetrics.srtt_ms.Reads as srtt-ms
use Rattle.metrics.proofs.MmpMetrics.loss_rate.Reads as loss-rate
use Rattle.metrics.proofs.MmpMetrics.smoothed_loss.Reads as smoothed-loss
use Rattle.metrics.proofs.MmpMetrics.quality_index.Reads as quality-index
use Rattle.metrics.proofs.MmpMetrics.smoothed_etx.Reads as smoothed-etx
use Rattle.metrics.proofs.MmpMetrics.goodput_bps.Reads as goodput-bps
use Rattle.metrics.proofs.MmpMetrics.last_ecn_ce_count.Reads as last-ecn-ce-count
use Rattle.metrics.proofs.MmpMetrics.rr_counters.Reads as rr-counters
use Rattle.metrics.proofs.MmpMetrics.rtt_samples.Reads as rtt-samples
use Rattle.metrics.proofs.MmpMetrics.rtt_zero.Reads as rtt-zero
use Rattle.metrics.proofs.MmpMetrics.rtt_arith_fail.Reads as rtt-arith-fail
use Rattle.metrics.proofs.MmpMetrics.last_rtt_ms.Reads as last-rtt-ms
use mathlib.Core.Bool.{false, ◌&&◌, true≢false}
use Prim.Native.Nat.{ℕ}
use lib.Dec.{eqb}
use lib.Ieee.{binary64}
use Rattle.std.specs.Prelude.{None}
use Rattle.std.specs.Bool.{then_some}
use Rattle.floats.specs.Operations.{zero_float, complement}
use Rattle.wire.specs.declared.receiver_report.ReceiverReport.{ReceiverReport}
use Rattle.algorithms.specs.Etx.{quality_of}
use Rattle.metrics.specs.State.{refusal_of}
use Rattle.metrics.specs.Updates.{rekey_of, reverse_of}
use Rattle.metrics.specs.Reports.{outcome_of, process_of}
use Rattle.metrics.specs.Accessors.{smoothed_ms, srtt_ms_of, loss_rate_of, smoothed_loss_of, smoothed_etx_of, quality_index_of, goodput_bps_of, last_ecn_ce_count_of, reports_seen_of, rtt_samples_of, rtt_zero_of, rtt_arith_fail_of, stale_reports_of, no_echo_reports_of, last_rtt_ms_of, counters_kept, rr_counters_of}
use Rattle.metrics.specs.declared.MmpMetrics.{MmpMetrics}
use Rattle.metrics.specs.declared.Outcome.{Outcome}
use Rattle.metrics.specs.declared.RrLog.TheVariants as log
use Rattle.metrics.proofs.ReportsByCase.{by_case, process_refusal_lem}
use Rattle.history.specs.Answers.{Fact, Answer, staying}
use Rattle.history.specs.MetricsCalls.{MetricsNew, new_metrics, MetricsQuestion, metrics_told, MetricsCall, metrics_step}
use Rattle.history.specs.ResultsRead.{asked, moved, moved_with}
use Rattle.history.specs.Tellings as told
use Rattle.history.proofs.RefusalsKnown.{Known, metrics_rule_known, process_known}
use Rattle.history.proofs.ResultsReadTrue.{asked_true, moved_true, moved_with_true}

-- ---- a new record
pub new_row : (κs : _) (a : _) (r : _) (s : _) → new.Learnt κs a r s → r ≡ new_metrics MetricsNew.new
new_row κs a r s e = e

pub default_row : (κs : _) (a : _) (r : _) (s : _) → default.Learnt κs a r s → r ≡ new_metrics MetricsNew.default
default_row κs a r s e = e

-- ---- the calls
-- what became of a report beside a refusal
abbrev nothing : Outcome
nothing = outcome_of false log.None

outcome_beside : (m : MmpMetrics) (rr : ReceiverReport) (ours now : ℕ) → eqb (process_of m rr ours now).refusal 0 ≡ false → (process_of m rr ours now).outcome ≡ nothing
outcome_beside m rr ours now =
    by_case m rr ours now (λ p. eqb p.refusal 0 ≡ false → p.outcome ≡ nothing) (λ ne h. refl) (λ z old h. absurd (true≢false h)) (λ z new h. absurd (true≢false h))

processed_known : (m : MmpMetrics) (rr : ReceiverReport) (ours now : ℕ) → Known (process_of m rr ours now).refusal
processed_known m rr ours now = rw (process_refusal_lem m rr ours now) (process_known m now)

pub process_receiver_report_row : (κs : _) (a : _) (r : _) (s : _) → process-receiver-report.Learnt κs a r s → moved_with Answer.outcome nothing r ≡ metrics_step (MetricsCall.process_receiver_report a.1.0 a.1.1.0 a.1.1.1.0) a.0
unfolding metrics_step
process_receiver_report_row κs a r s e =
    let p = process_of a.0 a.1.0 a.1.1.0 a.1.1.1.0 in
    ap (moved_with Answer.outcome nothing) e
    ∙ moved_with_true Answer.outcome nothing p.refusal p.state p.outcome (processed_known a.0 a.1.0 a.1.1.0 a.1.1.1.0) (outcome_beside a.0 a.1.0 a.1.1.0 a.1.1.1.0)

pub reset_for_rekey_row : (κs : _) (a : _) (r : _) (s : _) → reset-for-rekey.Learnt κs a r s → moved r ≡ metrics_step MetricsCall.reset_for_rekey a.0
unfolding metrics_step rekey_of
reset_for_rekey_row κs a r s e = ap moved e ∙ moved_true (rekey_of a.0) (metrics_rule_known a.0)

pub update_reverse_delivery_row : (κs : _) (a : _) (r : _) (s : _) → update-reverse-delivery.Learnt κs a r s → moved r ≡ metrics_step (MetricsCall.update_reverse_delivery a.1.0 a.1.1.0) a.0
unfolding metrics_step reverse_of
update_reverse_delivery_row κs a r s e = ap moved e ∙ moved_true (reverse_of a.0 a.1.0 a.1.1.0) (metrics_rule_known a.0)

-- ---- the questions
pub reports_seen_row : (κs : _) (a : _) (r : _) (s : _) → reports-seen.Learnt κs a r s → staying a.0 (asked Fact.number 0 r) ≡ metrics_step MetricsCall.reports_seen a.0
unfolding metrics_step reports_seen_of
reports_seen_row κs a r s e = ap (λ x. staying a.0 (asked Fact.number 0 x)) e ∙ ap (staying a.0) (asked_true Fact.number 0 (refusal_of a.0) a.0.reports_seen (metrics_rule_known a.0))

pub stale_reports_row : (κs : _) (a : _) (r : _) (s : _) → stale-reports.Learnt κs a r s → staying a.0 (asked Fact.number 0 r) ≡ metrics_step MetricsCall.stale_reports a.0
unfolding metrics_step stale_reports_of
stale_reports_row κs a r s e = ap (λ x. staying a.0 (asked Fact.number 0 x)) e ∙ ap (staying a.0) (asked_true Fact.number 0 (refusal_of a.0) a.0.stale_reports (metrics_rule_known a.0))

pub keeps_rule_row : (κs : _) (a : _) (r : _) (s : _) → keeps-rule.Learnt κs a r s → staying a.0 (told.rule r) ≡ metrics_step (MetricsCall.ask MetricsQuestion.keeps_rule) a.0
unfolding metrics_step metrics_told
keeps_rule_row κs a r s e = ap (λ x. staying a.0 (told.rule x)) e

pub srtt_ms_row : (κs : _) (a : _) (r : _) (s : _) → srtt-ms.Learnt κs a r s → staying a.0 (asked Fact.optional_float None r) ≡ metrics_step (MetricsCall.ask MetricsQuestion.srtt_ms) a.0
unfolding metrics_step metrics_told srtt_ms_of
srtt_ms_row κs a r s e = ap (λ x. staying a.0 (asked Fact.optional_float None x)) e ∙ ap (staying a.0) (asked_true Fact.optional_float None (refusal_of a.0) ((then_some a.0.srtt.initialized (smoothed_ms a.0))) (metrics_rule_known a.0))

pub loss_rate_row : (κs : _) (a : _) (r : _) (s : _) → loss-rate.Learnt κs a r s → staying a.0 (asked Fact.float zero_float r) ≡ metrics_step (MetricsCall.ask MetricsQuestion.loss_rate) a.0
unfolding metrics_step metrics_told loss_rate_of
loss_rate_row κs a r s e = ap (λ x. staying a.0 (asked Fact.float zero_float x)) e ∙ ap (staying a.0) (asked_true Fact.float zero_float (refusal_of a.0) (complement binary64 a.0.delivery_ratio_forward) (metrics_rule_known a.0))

pub smoothed_loss_row : (κs : _) (a : _) (r : _) (s : _) → smoothed-loss.Learnt κs a r s → staying a.0 (asked Fact.optional_float None r) ≡ metrics_step (MetricsCall.ask MetricsQuestion.smoothed_loss) a.0
unfolding metrics_step metrics_told smoothed_loss_of
smoothed_loss_row κs a r s e = ap (λ x. staying a.0 (asked Fact.optional_float None x)) e ∙ ap (staying a.0) (asked_true Fact.optional_float None (refusal_of a.0) (then_some a.0.loss_trend.initialized a.0.loss_trend.long) (metrics_rule_known a.0))

pub quality_index_row : (κs : _) (a : _) (r : _) (s : _) → quality-index.Learnt κs a r s → staying a.0 (asked Fact.optional_float None r) ≡ metrics_step (MetricsCall.ask MetricsQuestion.quality_index) a.0
unfolding metrics_step metrics_told quality_index_of
quality_index_row κs a r s e = ap (λ x. staying a.0 (asked Fact.optional_float None x)) e ∙ ap (staying a.0) (asked_true Fact.optional_float None (refusal_of a.0) ((then_some (a.0.srtt.initialized && a.0.etx_trend.initialized) (quality_of a.0.etx_trend.long (smoothed_ms a.0)))) (metrics_rule_known a.0))

pub smoothed_etx_row : (κs : _) (a : _) (r : _) (s : _) → smoothed-etx.Learnt κs a r s → staying a.0 (asked Fact.optional_float None r) ≡ metrics_step (MetricsCall.ask MetricsQuestion.smoothed_etx) a.0
unfolding metrics_step metrics_told smoothed_etx_of
smoothed_etx_row κs a r s e = ap (λ x. staying a.0 (asked Fact.optional_float None x)) e ∙ ap (staying a.0) (asked_true Fact.optional_float None (refusal_of a.0) (then_some a.0.etx_trend.initialized a.0.etx_trend.long) (metrics_rule_known a.0))

pub goodput_bps_row : (κs : _) (a : _) (r : _) (s : _) → goodput-bps.Learnt κs a r s → staying a.0 (asked Fact.float zero_float r) ≡ metrics_step (MetricsCall.ask MetricsQuestion.goodput_bps) a.0
unfolding metrics_step metrics_told goodput_bps_of
goodput_bps_row κs a r s e = ap (λ x. staying a.0 (asked Fact.float zero_float x)) e ∙ ap (staying a.0) (asked_true Fact.float zero_float (refusal_of a.0) a.0.goodput_bps (metrics_rule_known a.0))

pub last_ecn_ce_count_row : (κs : _) (a : _) (r : _) (s : _) → last-ecn-ce-count.Learnt κs a r s → staying a.0 (asked Fact.number 0 r) ≡ metrics_step (MetricsCall.ask MetricsQuestion.last_ecn_ce_count) a.0
unfolding metrics_step metrics_told last_ecn_ce_count_of
last_ecn_ce_count_row κs a r s e = ap (λ x. staying a.0 (asked Fact.number 0 x)) e ∙ ap (staying a.0) (asked_true Fact.number 0 (refusal_of a.0) a.0.prev_rr_ecn_ce (metrics_rule_known a.0))

pub rr_counters_row : (κs : _) (a : _) (r : _) (s : _) → rr-counters.Learnt κs a r s → staying a.0 (asked Fact.counters None r) ≡ metrics_step (MetricsCall.ask MetricsQuestion.rr_counters) a.0
unfolding metrics_step metrics_told rr_counters_of
rr_counters_row κs a r s e = ap (λ x. staying a.0 (asked Fact.counters None x)) e ∙ ap (staying a.0) (asked_true Fact.counters None (refusal_of a.0) (counters_kept a.0) (metrics_rule_known a.0))

pub rtt_samples_row : (κs : _) (a : _) (r : _) (s : _) → rtt-samples.Learnt κs a r s → staying a.0 (asked Fact.number 0 r) ≡ metrics_step (MetricsCall.ask MetricsQuestion.rtt_samples) a.0
unfolding metrics_step metrics_told rtt_samples_of
rtt_samples_row κs a r s e = ap (λ x. staying a.0 (asked Fact.number 0 x)) e ∙ ap (staying a.0) (asked_true Fact.number 0 (refusal_of a.0) a.0.rtt_samples (metrics_rule_known a.0))

pub rtt_zero_row : (κs : _) (a : _) (r : _) (s : _) → rtt-zero.Learnt κs a r s → staying a.0 (asked Fact.number 0 r) ≡ metrics_step (MetricsCall.ask MetricsQuestion.rtt_zero) a.0
unfolding metrics_step metrics_told rtt_zero_of
rtt_zero_row κs a r s e = ap (λ x. staying a.0 (asked Fact.number 0 x)) e ∙ ap (staying a.0) (asked_true Fact.number 0 (refusal_of a.0) a.0.rtt_zero (metrics_rule_known a.0))

pub rtt_arith_fail_row : (κs : _) (a : _) (r : _) (s : _) → rtt-arith-fail.Learnt κs a r s → staying a.0 (asked Fact.number 0 r) ≡ metrics_step (MetricsCall.ask MetricsQuestion.rtt_arith_fail) a.0
unfolding metrics_step metrics_told rtt_arith_fail_of
rtt_arith_fail_row κs a r s e = ap (λ x. staying a.0 (asked Fact.number 0 x)) e ∙ ap (staying a.0) (asked_true Fact.number 0 (refusal_of a.0) a.0.rtt_arith_fail (metrics_rule_known a.0))

pub no_echo_reports_row : (κs : _) (a : _) (r : _) (s : _) → no-echo-reports.Learnt κs a r s → staying a.0 (asked Fact.number 0 r) ≡ metrics_step (MetricsCall.ask MetricsQuestion.no_echo_reports) a.0
unfolding metrics_step metrics_told no_echo_reports_of
no_echo_reports_row κs a r s e = ap (λ x. staying a.0 (asked Fact.number 0 x)) e ∙ ap (staying a.0) (asked_true Fact.number 0 (refusal_of a.0) a.0.no_echo_reports (metrics_rule_known a.0))

pub last_rtt_ms_row : (κs : _) (a : _) (r : _) (s : _) → last-rtt-ms.Learnt κs a r s → staying a.0 (asked Fact.optional_word None r) ≡ metrics_step (MetricsCall.ask MetricsQuestion.last_rtt_ms) a.0
unfolding metrics_step metrics_told last_rtt_ms_of
last_rtt_ms_row κs a r s e = ap (λ x. staying a.0 (asked Fact.optional_word None x)) e ∙ ap (staying a.0) (asked_true Fact.optional_word None (refusal_of a.0) a.0.last_rtt_ms (metrics_rule_known a.0))
