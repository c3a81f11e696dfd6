-- A refused call hands its record back as it was, whichever call it is.
use mathlib.Core.Path.{◌≡◌, refl, ◌∙◌, ap}
use mathlib.Core.Logic.{◌≢◌}
use mathlib.Core.Bool.{Bool, true, false, cond}
use mathlib.Core.List.{List}
use Prim.Native.Nat.{ℕ}
use lib.Dec.{eqb}
use lib.IntN.{ℤ}
use borrow.Author.Tests.{eqb-true}
use Rattle.wire.specs.declared.receiver_report.ReceiverReport.{ReceiverReport}
use Rattle.algorithms.specs.Owd.{window}
use Rattle.algorithms.specs.OwdTrend.{trend_of}
use Rattle.pace.specs.Updates.{updated, from_srtt, with_bounds}
use Rattle.sender.specs.Sent as sent
use Rattle.sender.specs.Backoff as backoff
use Rattle.sender.specs.Pacing as sender-pacing
use Rattle.sender.specs.Reports as sender
use Rattle.sender.specs.declared.SenderState.{SenderState}
use Rattle.sender.specs.Reports.{SenderReportBuilt}
use Rattle.sender.proofs.RuleKept as sender_rule_lem
use Rattle.receiver.specs.State as receiver-state
use Rattle.receiver.specs.Frames as frames
use Rattle.receiver.specs.Pacing as receiver-pacing
use Rattle.receiver.specs.Reports as receiver
use Rattle.receiver.specs.declared.ReceiverState.{ReceiverState}
use Rattle.receiver.specs.Reports.{ReceiverReportBuilt}
use Rattle.receiver.proofs.RuleKept as receiver_rule_lem
use Rattle.metrics.specs.Reports as reports
use Rattle.metrics.specs.Updates as updates
use Rattle.metrics.specs.declared.MmpMetrics.{MmpMetrics}
use Rattle.metrics.specs.Reports.{ReportProcessed}
use Rattle.metrics.proofs.ReportsByCase.{process_refusal_lem, refused_is}
use Rattle.history.specs.SenderCalls.{SenderCall, sender_step}
use Rattle.history.specs.ReceiverCalls.{ReceiverCall, receiver_step}
use Rattle.history.specs.MetricsCalls.{MetricsCall, metrics_step}
use Rattle.history.specs.Ends.{End, EndCall, on_sender, on_receiver, on_metrics, end_step, Side, Two, at, Call, side_step, ends}

-- a choice by a number that is not 0
refused : {A : Type 0} (n : ℕ) (t s : A) → n ≢ 0 → cond (eqb n 0) t s ≡ s
refused n t s ne = go (eqb n 0) (eqb-true n 0)
  where
    go : (b : Bool) → (b ≡ true → n ≡ 0) → cond b t s ≡ s
    go true f = absurd (ne (f refl))
    go false f = refl

-- ---- sender
sender_report_stays : (s : SenderState) (now : ℕ) → (sender.built_of s now).refusal ≢ 0 → (sender.built_of s now).state ≡ s
unfolding sender.built_of
sender_report_stays s now ne =
    ap (λ (r : SenderReportBuilt). r.state)
    (refused (sender.report_refusal s now) (sender.built s now) (sender.none_built (sender.report_refusal s now) s) (λ e. ne (sender_rule_lem.report_refusal_lem s now ∙ e)))

sender_pace_stays : (s : SenderState) (n interval count : ℕ) → n ≢ 0
    → (sender-pacing.with_pace s (record { refusal = n; report_interval_ms = cond (eqb n 0) interval s.report_interval_ms; srtt_sample_count = cond (eqb n 0) count s.srtt_sample_count })).state ≡ s
sender_pace_stays s n interval count ne = rw (refused n interval s.report_interval_ms ne, refused n count s.srtt_sample_count ne)

pub sender_stays : (c : SenderCall) (s : SenderState) → (sender_step c s).refusal ≢ 0 → (sender_step c s).state ≡ s
unfolding sender_step sent.sent_of backoff.failure_of backoff.success_of sender-pacing.from_srtt_of sender-pacing.with_bounds_of from_srtt with_bounds updated
sender_stays (SenderCall.record_sent counter timestamp bytes) s ne = refused _ _ s ne
sender_stays (SenderCall.build_report now) s ne = sender_report_stays s now ne
sender_stays SenderCall.record_send_failure s ne = refused _ _ s ne
sender_stays SenderCall.record_send_success s ne = refused _ _ s ne
sender_stays (SenderCall.update_report_interval_from_srtt srtt) s ne = sender_pace_stays s _ _ _ ne
sender_stays (SenderCall.update_report_interval_with_bounds srtt lo hi) s ne = sender_pace_stays s _ _ _ ne
sender_stays (SenderCall.ask q) s ne = refl

-- ---- receiver
receiver_report_stays : (s : ReceiverState) (times : List ℕ) (delays : List ℤ) (now : ℕ) → (receiver.built_of s times delays now).refusal ≢ 0 → (receiver.built_of s times delays now).state ≡ s
unfolding receiver.built_of
receiver_report_stays s times delays now ne =
    let n = receiver.report_refusal s times delays now in
    ap (λ (r : ReceiverReportBuilt). r.state)
    (refused n (receiver.built s (trend_of (window s.owd_trend times delays)) now) (receiver.none_built n s) (λ e. ne (receiver_rule_lem.report_refusal_lem s times delays now ∙ e)))

receiver_pace_stays : (s : ReceiverState) (n interval count : ℕ) → n ≢ 0
    → (receiver-pacing.with_pace s (record { refusal = n; report_interval_ms = cond (eqb n 0) interval s.report_interval_ms; srtt_sample_count = cond (eqb n 0) count s.srtt_sample_count })).state ≡ s
receiver_pace_stays s n interval count ne = rw (refused n interval s.report_interval_ms ne, refused n count s.srtt_sample_count ne)

pub receiver_stays : (c : ReceiverCall) (s : ReceiverState) → (receiver_step c s).refusal ≢ 0 → (receiver_step c s).state ≡ s
unfolding receiver_step frames.frame_of receiver-state.rekey_of receiver-pacing.from_srtt_of receiver-pacing.with_bounds_of from_srtt with_bounds updated
receiver_stays (ReceiverCall.record_frame f sampled) s ne = refused _ _ s ne
receiver_stays (ReceiverCall.record_recv f) s ne = refused _ _ s ne
receiver_stays (ReceiverCall.reset_for_rekey now) s ne = refused _ _ s ne
receiver_stays (ReceiverCall.build_report times delays now) s ne = receiver_report_stays s times delays now ne
receiver_stays (ReceiverCall.update_report_interval_from_srtt srtt) s ne = receiver_pace_stays s _ _ _ ne
receiver_stays (ReceiverCall.update_report_interval_with_bounds srtt lo hi) s ne = receiver_pace_stays s _ _ _ ne
receiver_stays (ReceiverCall.ask q) s ne = refl

-- ---- metrics
process_stays : (m : MmpMetrics) (rr : ReceiverReport) (ours now : ℕ) → (reports.process_of m rr ours now).refusal ≢ 0 → (reports.process_of m rr ours now).state ≡ m
process_stays m rr ours now ne = ap (λ (r : ReportProcessed). r.state) (refused_is m rr ours now (λ e. ne (process_refusal_lem m rr ours now ∙ e)))

pub metrics_stays : (c : MetricsCall) (m : MmpMetrics) → (metrics_step c m).refusal ≢ 0 → (metrics_step c m).state ≡ m
unfolding metrics_step updates.rekey_of updates.reverse_of
metrics_stays (MetricsCall.process_receiver_report rr ours now) m ne = process_stays m rr ours now ne
metrics_stays MetricsCall.reset_for_rekey m ne = refused _ _ m ne
metrics_stays (MetricsCall.update_reverse_delivery packets highest) m ne = refused _ _ m ne
metrics_stays MetricsCall.reports_seen m ne = refl
metrics_stays MetricsCall.stale_reports m ne = refl
metrics_stays (MetricsCall.ask q) m ne = refl

-- ---- both ends
end_stays : (c : EndCall) (e : End) → (end_step c e).refusal ≢ 0 → (end_step c e).state ≡ e
end_stays (on_sender c) e ne = λ i. record { sender = sender_stays c e.sender ne i; receiver = e.receiver; metrics = e.metrics }
end_stays (on_receiver c) e ne = λ i. record { sender = e.sender; receiver = receiver_stays c e.receiver ne i; metrics = e.metrics }
end_stays (on_metrics c) e ne = λ i. record { sender = e.sender; receiver = e.receiver; metrics = metrics_stays c e.metrics ne i }

side_stays : (s : Side) (c : EndCall) (w : Two End) → (end_step c (at s w)).refusal ≢ 0 → (side_step s c w).state ≡ w
side_stays Side.west c w ne = λ i. record { west = end_stays c w.west ne i; east = w.east }
side_stays Side.east c w ne = λ i. record { west = w.west; east = end_stays c w.east ne i }

pub stays : (c : Call) (w : Two End) → (ends.step c w).refusal ≢ 0 → (ends.step c w).state ≡ w
stays c w ne = side_stays c.side c.call w ne
