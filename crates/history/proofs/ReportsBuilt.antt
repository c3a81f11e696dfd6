-- Every report that an end builds has a jitter near the exact average, encoded and decoded too; no call but the receiver's `build_report` answers one.
use mathlib.Core.Path.{◌≡◌}
use mathlib.Core.Logic.{◌≢◌}
use mathlib.Core.Bool.{true}
use mathlib.Core.List.{List}
use Prim.Native.Nat.{ℕ, ◌^◌, ◌<◌}
use native.Mathlib.Omega.{arith}
use Rattle.numbers.specs.Jitter.{JitterAverage}
use Rattle.numbers.proofs.JitterStaysNear.{ReportedNear}
use Rattle.wire.specs.ReceiverReport.{encode_answer}
use Rattle.wire.specs.declared.receiver_report.ReceiverReport.{ReceiverReport}
use Rattle.wire.proofs.ReceiverRoundTrip.{jitter_back}
use Rattle.sender.specs.declared.SenderState.{SenderState}
use Rattle.receiver.specs.declared.ReceiverState.{ReceiverState}
use Rattle.metrics.specs.declared.MmpMetrics.{MmpMetrics}
use Rattle.history.specs.Answers.{Answer}
use Rattle.history.specs.SenderCalls.{SenderCall, sender_step}
use Rattle.history.specs.ReceiverCalls.{ReceiverCall, receiver_step}
use Rattle.history.specs.MetricsCalls.{MetricsCall, metrics_step}
use Rattle.history.specs.Ends.{End, EndCall, on_sender, on_receiver, on_metrics, end_step, Log}
use Rattle.history.specs.NoCreep.{jitter_average, JitterHolds}
use Rattle.history.proofs.JitterTied as jitters

clash : {A : Type 0} → ◌≡◌ {A = ℕ} 0 1 → A
clash z = absurd (omega arith)

sender_builds_none : (c : SenderCall) (s : SenderState) (rr : ReceiverReport) → (sender_step c s).answer ≢ Answer.receiver_report true rr
unfolding sender_step
sender_builds_none (SenderCall.record_sent counter timestamp bytes) s rr e = clash cc
sender_builds_none (SenderCall.build_report now) s rr e = clash cc
sender_builds_none SenderCall.record_send_failure s rr e = clash cc
sender_builds_none SenderCall.record_send_success s rr e = clash cc
sender_builds_none (SenderCall.update_report_interval_from_srtt srtt) s rr e = clash cc
sender_builds_none (SenderCall.update_report_interval_with_bounds srtt lo hi) s rr e = clash cc
sender_builds_none (SenderCall.ask q) s rr e = clash cc

metrics_build_none : (c : MetricsCall) (m : MmpMetrics) (rr : ReceiverReport) → (metrics_step c m).answer ≢ Answer.receiver_report true rr
unfolding metrics_step
metrics_build_none (MetricsCall.process_receiver_report rr ours now) m built e = clash cc
metrics_build_none MetricsCall.reset_for_rekey m rr e = clash cc
metrics_build_none (MetricsCall.update_reverse_delivery packets highest) m rr e = clash cc
metrics_build_none MetricsCall.reports_seen m rr e = clash cc
metrics_build_none MetricsCall.stale_reports m rr e = clash cc
metrics_build_none (MetricsCall.ask q) m rr e = clash cc

-- of a receiver's calls build_report alone answers one, and it is near
receiver_builds_near : (c : ReceiverCall) (s : ReceiverState) (l : List ReceiverCall) (rr : ReceiverReport) → jitters.Tied (jitters.exact_of l) s → (receiver_step c s).answer ≡ Answer.receiver_report true rr →
    (rr.jitter < 2 ^ 32) × ReportedNear (jitter_average l) rr.jitter
unfolding receiver_step
receiver_builds_near (ReceiverCall.record_frame f sampled) s l rr t e = clash cc
receiver_builds_near (ReceiverCall.record_recv f) s l rr t e = clash cc
receiver_builds_near (ReceiverCall.reset_for_rekey now) s l rr t e = clash cc
receiver_builds_near (ReceiverCall.build_report times delays now) s l rr t e = jitters.report_near s times delays now l rr t e
receiver_builds_near (ReceiverCall.update_report_interval_from_srtt srtt) s l rr t e = clash cc
receiver_builds_near (ReceiverCall.update_report_interval_with_bounds srtt lo hi) s l rr t e = clash cc
receiver_builds_near (ReceiverCall.ask q) s l rr t e = clash cc

decoded_near : (a : JitterAverage) (rr : ReceiverReport) (out : List ℕ) → rr.jitter < 2 ^ 32 → ReportedNear a rr.jitter → encode_answer out ≡ 0 → JitterHolds a rr out
decoded_near a rr out fits near room = let d = jitter_back rr out fits room in record { decodes = d.0; near = rw d.1 near.within }

pub end_builds_near : (c : EndCall) (x : Log) (e : End) → jitters.Tied (jitters.exact_of x.receiver) e.receiver → (rr : ReceiverReport) → (end_step c e).answer ≡ Answer.receiver_report true rr →
    (out : List ℕ) → encode_answer out ≡ 0 → JitterHolds (jitter_average x.receiver) rr out
end_builds_near (on_sender c) x e t rr same out room = absurd (sender_builds_none c e.sender rr same)
end_builds_near (on_receiver c) x e t rr same out room =
    let n = receiver_builds_near c e.receiver x.receiver rr t same in
    decoded_near (jitter_average x.receiver) rr out n.0 n.1 room
end_builds_near (on_metrics c) x e t rr same out room = absurd (metrics_build_none c e.metrics rr same)
