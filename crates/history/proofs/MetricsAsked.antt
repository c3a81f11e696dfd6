-- A call on a metrics record that keeps its rule is refused as its own arguments and the record's counters say, and not by 1.
use mathlib.Core.Path.{◌≡◌, refl}
use mathlib.Core.Bool.{true}
use mathlib.Core.List.{[], ◌∷◌}
use Rattle.refusals.specs.Answers.{answer}
use Rattle.refusals.specs.Questions.{question, first_no}
use Rattle.refusals.specs.Ranges.{counter_ok}
use Rattle.metrics.specs.State.{keeps_the_rule, refusal_of}
use Rattle.metrics.specs.Reports.{process_refusal}
use Rattle.metrics.specs.Updates.{rekey_of, reverse_of}
use Rattle.metrics.specs.Accessors.{
  srtt_ms_of,
  loss_rate_of,
  smoothed_loss_of,
  quality_index_of,
  smoothed_etx_of,
  goodput_bps_of,
  last_ecn_ce_count_of,
  rr_counters_of,
  reports_seen_of,
  rtt_samples_of,
  rtt_zero_of,
  rtt_arith_fail_of,
  stale_reports_of,
  no_echo_reports_of,
  last_rtt_ms_of,
}
use Rattle.metrics.specs.declared.MmpMetrics.{MmpMetrics}
use Rattle.metrics.proofs.ReportsByCase.{process_refusal_lem}
use Rattle.history.specs.MetricsCalls.{MetricsQuestion, metrics_told, MetricsCall, metrics_step}
use Rattle.history.specs.Asked as paper
use Rattle.history.proofs.Asked.{Lawful, behind_rule, never_refused}

module _ (m : MmpMetrics) (rule : keeps_the_rule m ≡ true) where
  asks_rule : Lawful paper.rule_alone (refusal_of m)
  unfolding refusal_of first_no
  asks_rule = rw rule never_refused

  -- every question but `keeps_rule` asks the rule, and is refused by nothing else
  told_lawful : (q : MetricsQuestion) → Lawful paper.rule_alone (metrics_told q m).refusal
  unfolding metrics_told srtt_ms_of loss_rate_of smoothed_loss_of quality_index_of smoothed_etx_of goodput_bps_of last_ecn_ce_count_of rr_counters_of rtt_samples_of rtt_zero_of rtt_arith_fail_of no_echo_reports_of last_rtt_ms_of answer
  told_lawful MetricsQuestion.keeps_rule = never_refused
  told_lawful MetricsQuestion.srtt_ms = asks_rule
  told_lawful MetricsQuestion.loss_rate = asks_rule
  told_lawful MetricsQuestion.smoothed_loss = asks_rule
  told_lawful MetricsQuestion.quality_index = asks_rule
  told_lawful MetricsQuestion.smoothed_etx = asks_rule
  told_lawful MetricsQuestion.goodput_bps = asks_rule
  told_lawful MetricsQuestion.last_ecn_ce_count = asks_rule
  told_lawful MetricsQuestion.rr_counters = asks_rule
  told_lawful MetricsQuestion.rtt_samples = asks_rule
  told_lawful MetricsQuestion.rtt_zero = asks_rule
  told_lawful MetricsQuestion.rtt_arith_fail = asks_rule
  told_lawful MetricsQuestion.no_echo_reports = asks_rule
  told_lawful MetricsQuestion.last_rtt_ms = asks_rule

  pub metrics_lawful : (c : MetricsCall) → Lawful (paper.to_metrics c) (metrics_step c m).refusal
  unfolding first_no metrics_step process_refusal rekey_of reverse_of reports_seen_of stale_reports_of answer
  metrics_lawful (MetricsCall.process_receiver_report rr ours now) = rw (process_refusal_lem m rr ours now, rule) (behind_rule (paper.ask 2 (paper.clock now) ∷ []) (question 10 (counter_ok 64 m.reports_seen 1) ∷ []) refl)
  metrics_lawful MetricsCall.reset_for_rekey = asks_rule
  metrics_lawful (MetricsCall.update_reverse_delivery packets highest) = asks_rule
  metrics_lawful MetricsCall.reports_seen = asks_rule
  metrics_lawful MetricsCall.stale_reports = asks_rule
  metrics_lawful (MetricsCall.ask q) = told_lawful q
