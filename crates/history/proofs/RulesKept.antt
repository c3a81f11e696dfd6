-- Each record keeps its rule through every accepted call, and with it what the rule leans on: the length of a receiver's burst fits its type, and the f64 of
-- a metrics record stay f64.
use mathlib.Core.Path.{◌≡◌}
use mathlib.Core.Bool.{true}
use native.Mathlib.Omega.{arith}
use Rattle.refusals.specs.Questions.{first_no}
use Rattle.sender.specs.State as senders
use Rattle.sender.specs.declared.SenderState.{SenderState}
use Rattle.sender.proofs.RuleKept as sender
use Rattle.pace.specs.Updates as pace
use Rattle.receiver.specs.State as receivers
use Rattle.receiver.specs.declared.ReceiverState.{ReceiverState}
use Rattle.receiver.proofs.RuleKept as receiver
use Rattle.receiver.proofs.BurstLengthFits as bursts
use Rattle.metrics.specs.State as metrics
use Rattle.metrics.specs.declared.MmpMetrics.{MmpMetrics}
use Rattle.metrics.proofs.FiguresInRange.{Floats}
use Rattle.metrics.proofs.RuleKept.{fresh_keeps_rule, fresh_floats, rekey_keeps_rule, rekey_floats, reverse_keeps_rule, reverse_floats, process_keeps_rule, process_floats}
use Rattle.history.specs.SenderCalls.{SenderNew, new_sender, SenderCall, sender_step}
use Rattle.history.specs.ReceiverCalls.{ReceiverNew, new_receiver, ReceiverCall, receiver_step}
use Rattle.history.specs.MetricsCalls.{MetricsNew, new_metrics, MetricsCall, metrics_step}
use Rattle.history.specs.Meant.{metrics_fits}

-- ---- sender
pub new_sender_lem : (k : SenderNew) → senders.keeps_the_rule (new_sender k) ≡ true
new_sender_lem SenderNew.new = sender.fresh_keeps_rule
new_sender_lem SenderNew.default = sender.fresh_keeps_rule
new_sender_lem (SenderNew.new_with_cold_start ms) = sender.new_keeps_rule ms

pub sender_next : (c : SenderCall) (s : SenderState) → (sender_step c s).refusal ≡ 0 → senders.keeps_the_rule s ≡ true → senders.keeps_the_rule (sender_step c s).state ≡ true
unfolding sender_step
sender_next (SenderCall.record_sent counter timestamp bytes) s e h = sender.sent_keeps_rule s counter timestamp bytes e
sender_next (SenderCall.build_report now) s e h = sender.report_keeps_rule s now e
sender_next SenderCall.record_send_failure s e h = sender.failure_keeps_rule s e
sender_next SenderCall.record_send_success s e h = sender.success_keeps_rule s e
sender_next (SenderCall.update_report_interval_from_srtt srtt) s e h = sender.from_srtt_keeps_rule s srtt e
sender_next (SenderCall.update_report_interval_with_bounds srtt lo hi) s e h = sender.with_bounds_keeps_rule s srtt lo hi e
sender_next (SenderCall.ask q) s e h = h

-- ---- receiver
pub record Receiving (s : ReceiverState) : Type 0 where
  pub rule : receivers.keeps_the_rule s ≡ true
  pub burst : bursts.Fits s

pub new_receiver_lem : (k : ReceiverNew) → Receiving (new_receiver k)
unfolding receivers.new_of pace.cold_start_refusal first_no
new_receiver_lem (ReceiverNew.new window) = record { rule = receiver.with_window_keeps_rule window; burst = omega arith }
new_receiver_lem ReceiverNew.default = record { rule = receiver.fresh_keeps_rule; burst = omega arith }
new_receiver_lem (ReceiverNew.new_with_cold_start window ms) = record { rule = receiver.new_keeps_rule window ms; burst = bursts.new_fits window ms }

pub receiver_next : (c : ReceiverCall) (s : ReceiverState) → (receiver_step c s).refusal ≡ 0 → Receiving s → Receiving (receiver_step c s).state
unfolding receiver_step
receiver_next (ReceiverCall.record_frame f sampled) s e h =
    record {
      rule = receiver.frame_keeps_rule s f.times f.delays f.counter f.timestamp f.bytes f.ce f.now sampled h.burst e;
      burst = bursts.frame_fits s f.times f.delays f.counter f.timestamp f.bytes f.ce f.now sampled h.burst;
    }
receiver_next (ReceiverCall.record_recv f) s e h =
    record {
      rule = receiver.frame_keeps_rule s f.times f.delays f.counter f.timestamp f.bytes f.ce f.now true h.burst e;
      burst = bursts.frame_fits s f.times f.delays f.counter f.timestamp f.bytes f.ce f.now true h.burst;
    }
receiver_next (ReceiverCall.reset_for_rekey now) s e h = record { rule = receiver.rekey_keeps_rule s now e; burst = bursts.rekey_fits s now h.burst }
receiver_next (ReceiverCall.build_report times delays now) s e h =
    record { rule = receiver.report_keeps_rule s times delays now h.burst e; burst = bursts.report_fits s times delays now h.burst }
receiver_next (ReceiverCall.update_report_interval_from_srtt srtt) s e h =
    record { rule = receiver.from_srtt_keeps_rule s srtt e; burst = bursts.from_srtt_fits s srtt h.burst }
receiver_next (ReceiverCall.update_report_interval_with_bounds srtt lo hi) s e h =
    record { rule = receiver.with_bounds_keeps_rule s srtt lo hi e; burst = bursts.with_bounds_fits s srtt lo hi h.burst }
receiver_next (ReceiverCall.ask q) s e h = h

-- ---- metrics
pub record Measuring (m : MmpMetrics) : Type 0 where
  pub rule : metrics.keeps_the_rule m ≡ true
  pub floats : Floats m

pub new_metrics_lem : (k : MetricsNew) → Measuring (new_metrics k)
new_metrics_lem MetricsNew.new = record { rule = fresh_keeps_rule; floats = fresh_floats }
new_metrics_lem MetricsNew.default = record { rule = fresh_keeps_rule; floats = fresh_floats }

pub metrics_next : (c : MetricsCall) (m : MmpMetrics) → metrics_fits c → (metrics_step c m).refusal ≡ 0 → Measuring m → Measuring (metrics_step c m).state
unfolding metrics_step
metrics_next (MetricsCall.process_receiver_report rr ours now) m f e h =
    record { rule = process_keeps_rule m rr ours now h.floats f.0 f.1 e; floats = process_floats m rr ours now h.floats f.0 f.1 }
metrics_next MetricsCall.reset_for_rekey m f e h = record { rule = rekey_keeps_rule m h.floats e; floats = rekey_floats m h.floats }
metrics_next (MetricsCall.update_reverse_delivery packets highest) m f e h =
    record { rule = reverse_keeps_rule m packets highest f.0 f.1 h.floats e; floats = reverse_floats m packets highest f.0 f.1 h.floats }
metrics_next MetricsCall.reports_seen m f e h = h
metrics_next MetricsCall.stale_reports m f e h = h
metrics_next (MetricsCall.ask q) m f e h = h
