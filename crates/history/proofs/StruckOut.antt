-- An end that has had fewer stale reports answers and moves as it would have otherwise, but for two of its counts of reports.
use mathlib.Core.Path.{◌≡◌, refl, ap}
use mathlib.Core.Logic.{◌≢◌}
use mathlib.Core.Bool.{true}
use Prim.Native.Nat.{ℕ, ◌+◌}
use native.Mathlib.Omega.{arith}
use Rattle.sender.specs.declared.SenderState.{SenderState}
use Rattle.receiver.specs.declared.ReceiverState.{ReceiverState}
use Rattle.history.specs.SenderCalls.{sender_step}
use Rattle.history.specs.ReceiverCalls.{receiver_step}
use Rattle.history.specs.MetricsCalls.{new_metrics}
use Rattle.history.specs.Ends.{End, EndNew, new_end, EndCall, on_sender, on_receiver, on_metrics, end_step, Log}
use Rattle.history.specs.NoCreep.{end_stale, restore_end, restore_records}
use Rattle.history.proofs.ReachedHolds.{reached_tied, reached_lawful}
use Rattle.history.proofs.Held.{Held}
use Rattle.history.proofs.TwoAside as two

-- f is e, having seen d stale reports fewer
pub record Like (d : ℕ) (e f : End) : Type 0 where
  pub sender : f.sender ≡ e.sender
  pub receiver : f.receiver ≡ e.receiver
  pub metrics : two.Like d e.metrics f.metrics

pub new_like : (k : EndNew) → Like 0 (new_end k) (new_end k)
new_like k = record { sender = refl; receiver = refl; metrics = two.like_itself (new_metrics k.metrics) }

pub refusal_alike : (c : EndCall) (d : ℕ) (e f : End) → Like d e f → (end_step c e).refusal ≢ 10 → (end_step c f).refusal ≡ (end_step c e).refusal
refusal_alike (on_sender c) d e f h ne = ap (λ (s : SenderState). (sender_step c s).refusal) h.sender
refusal_alike (on_receiver c) d e f h ne = ap (λ (r : ReceiverState). (receiver_step c r).refusal) h.receiver
refusal_alike (on_metrics c) d e f h ne = two.refusal_alike c e.metrics f.metrics h.metrics ne

pub answer_alike : (c : EndCall) (d : ℕ) (k : EndNew) (x : Log) (e f : End) → Held k x e → Like d e f → (end_step c f).refusal ≡ (end_step c e).refusal → restore_end d c (end_step c f).answer ≡ (end_step c e).answer
answer_alike (on_sender c) d k x e f r h z = ap (λ (s : SenderState). (sender_step c s).answer) h.sender
answer_alike (on_receiver c) d k x e f r h z = ap (λ (r : ReceiverState). (receiver_step c r).answer) h.receiver
answer_alike (on_metrics c) d k x e f r h z = two.answer_alike c e.metrics f.metrics h.metrics (reached_lawful r.metrics).rule z

pub state_alike : (c : EndCall) (d : ℕ) (e f : End) → Like d e f → (end_step c e).refusal ≡ 0 → (end_step c f).refusal ≡ 0 → Like d (end_step c e).state (end_step c f).state
state_alike (on_sender c) d e f h y z = record { sender = ap (λ (s : SenderState). (sender_step c s).state) h.sender; receiver = h.receiver; metrics = h.metrics }
state_alike (on_receiver c) d e f h y z = record { sender = h.sender; receiver = ap (λ (r : ReceiverState). (receiver_step c r).state) h.receiver; metrics = h.metrics }
state_alike (on_metrics c) d e f h y z = record { sender = h.sender; receiver = h.receiver; metrics = two.state_alike c e.metrics f.metrics h.metrics y z }

-- a stale report leaves one more to see
pub stale_idle : (c : EndCall) (d : ℕ) (k : EndNew) (x : Log) (e f : End) → Held k x e → Like d e f → (end_step c e).refusal ≡ 0 → end_stale c x ≡ true → Like (d + 1) (end_step c e).state f
stale_idle (on_sender c) d k x e f r h z st = let z : ◌≡◌ {A = ℕ} 0 1 = cc in absurd (omega arith)
stale_idle (on_receiver c) d k x e f r h z st = let z : ◌≡◌ {A = ℕ} 0 1 = cc in absurd (omega arith)
stale_idle (on_metrics c) d k x e f r h z st =
    record { sender = h.sender; receiver = h.receiver; metrics = two.stale_idle c x.metrics e.metrics f.metrics (reached_tied r.metrics) h.metrics z st }

pub records_restored : (d : ℕ) (e f : End) → Like d e f → restore_records d f ≡ e
records_restored d e f h = λ i. record { sender = h.sender i; receiver = h.receiver i; metrics = two.two_restored e.metrics f.metrics h.metrics i }
