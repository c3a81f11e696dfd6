-- What the accepted calls on the records of an end leave them: each record is what those calls reach by themselves; a sender's and a receiver's keep their rules, and a
-- receiver's is tied to the exact jitter and the lateness of the calls. What holds of a metrics record is `ReachedHolds`.
use mathlib.Core.Path.{◌≡◌, refl, ◌∙◌, ap}
use mathlib.Core.Bool.{true}
use mathlib.Core.List.{List}
use Rattle.sender.specs.State as senders
use Rattle.sender.specs.declared.SenderState.{SenderState}
use Rattle.receiver.specs.declared.ReceiverState.{ReceiverState}
use Rattle.history.specs.Run.{run_of}
use Rattle.history.specs.SenderCalls.{SenderNew, new_sender, SenderCall, sender_step}
use Rattle.history.specs.ReceiverCalls.{ReceiverNew, new_receiver, ReceiverCall, receiver_step}
use Rattle.history.specs.Meant.{Reached, begun, next}
use Rattle.history.specs.Ends.{End, EndNew, new_end, EndCall, on_sender, on_receiver, on_metrics, end_step, Log, no_calls, end_note, end_fits}
use Rattle.history.specs.Asked.{capacity_of}
use Rattle.history.proofs.JitterTied as jitters
use Rattle.history.proofs.LatenessTied as lateness
use Rattle.history.proofs.RulesKept as rules
use Rattle.history.proofs.ReceiverAsked.{new_capacity, capacity_next}

pub record SenderHeld (k : SenderNew) (l : List SenderCall) (s : SenderState) : Type 0 where
  pub alone : s ≡ run_of sender_step (new_sender k) l
  pub rule : senders.keeps_the_rule s ≡ true

pub record ReceiverHeld (k : ReceiverNew) (l : List ReceiverCall) (s : ReceiverState) : Type 0 where
  pub alone : s ≡ run_of receiver_step (new_receiver k) l
  pub lawful : rules.Receiving s
  pub jitter : jitters.Tied (jitters.exact_of l) s
  pub lateness : lateness.Tied (lateness.exact_of l) s
  pub capacity : s.owd_trend.capacity ≡ capacity_of k

pub record Held (k : EndNew) (x : Log) (e : End) : Type 0 where
  pub sender : SenderHeld k.sender x.sender e.sender
  pub receiver : ReceiverHeld k.receiver x.receiver e.receiver
  pub metrics : Reached x.metrics e.metrics

pub new_held : (k : EndNew) → Held k no_calls (new_end k)
unfolding run_of
new_held k = record {
  sender = record { alone = refl; rule = rules.new_sender_lem k.sender };
  receiver = record { alone = refl; lawful = rules.new_receiver_lem k.receiver; jitter = jitters.new_tied k.receiver; lateness = lateness.new_tied k.receiver; capacity = new_capacity k.receiver };
  metrics = begun k.metrics;
}

pub held_next : (c : EndCall) (k : EndNew) (x : Log) (e : End) → end_fits c → (end_step c e).refusal ≡ 0 → Held k x e → Held k (end_note c x) (end_step c e).state
unfolding run_of
held_next (on_sender c) k x e f z h = record {
  sender = record { alone = ap (λ (s : SenderState). (sender_step c s).state) h.sender.alone; rule = rules.sender_next c e.sender z h.sender.rule };
  receiver = h.receiver;
  metrics = h.metrics;
}
held_next (on_receiver c) k x e f z h = record {
  sender = h.sender;
  receiver =
      record {
        alone = ap (λ (s : ReceiverState). (receiver_step c s).state) h.receiver.alone;
        lawful = rules.receiver_next c e.receiver z h.receiver.lawful;
        jitter = jitters.tied_next c x.receiver e.receiver z h.receiver.jitter;
        lateness = lateness.tied_next c x.receiver e.receiver z h.receiver.lateness;
        capacity = capacity_next c e.receiver ∙ h.receiver.capacity;
      };
  metrics = h.metrics;
}
held_next (on_metrics c) k x e f z h = record {
  sender = h.sender;
  receiver = h.receiver;
  metrics = next c f z h.metrics;
}
