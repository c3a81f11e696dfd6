-- Two ends, each with a sender, a receiver and a metrics record, and the calls on them: document 01, "A history in demand 3".
-- Definitions only.
use Rattle.std.specs.Prelude.{List, [], ◌∷◌}
use Rattle.sender.specs.declared.SenderState.{SenderState}
use Rattle.receiver.specs.declared.ReceiverState.{ReceiverState}
use Rattle.metrics.specs.declared.MmpMetrics.{MmpMetrics}
use Rattle.history.specs.Run.{Step, Machine}
use Rattle.history.specs.Answers.{Answer}
use Rattle.history.specs.SenderCalls.{SenderNew, new_sender, SenderCall, sender_step}
use Rattle.history.specs.ReceiverCalls.{ReceiverNew, new_receiver, ReceiverCall, receiver_step}
use Rattle.history.specs.MetricsCalls.{MetricsNew, new_metrics, MetricsCall, metrics_step}
use Rattle.history.specs.Meant.{History, metrics_fits}

-- ---- an end
pub record End : Type 0 where
  pub sender : SenderState
  pub receiver : ReceiverState
  pub metrics : MmpMetrics

-- the constructors, with their arguments, that an end begins by
pub record EndNew : Type 0 where
  pub sender : SenderNew
  pub receiver : ReceiverNew
  pub metrics : MetricsNew

abbrev pub new_end : EndNew → End
new_end k = record { sender = new_sender k.sender; receiver = new_receiver k.receiver; metrics = new_metrics k.metrics }

-- "any public call on one of them may stand in the list"
pub data EndCall : Type 0 where
  on_sender : SenderCall → EndCall
  on_receiver : ReceiverCall → EndCall
  on_metrics : MetricsCall → EndCall

-- "A call works on one record of one end, gets it as the last call on it left it, and nobody else writes it"
abbrev pub end_step : EndCall → End → Step Answer End
end_step (on_sender c) e =
    let r = sender_step c e.sender in
    record { refusal = r.refusal; answer = r.answer; state = record { sender = r.state; receiver = e.receiver; metrics = e.metrics } }
end_step (on_receiver c) e =
    let r = receiver_step c e.receiver in
    record { refusal = r.refusal; answer = r.answer; state = record { sender = e.sender; receiver = r.state; metrics = e.metrics } }
end_step (on_metrics c) e =
    let r = metrics_step c e.metrics in
    record { refusal = r.refusal; answer = r.answer; state = record { sender = e.sender; receiver = e.receiver; metrics = r.state } }

-- the accepted calls on each record of an end
pub record Log : Type 0 where
  pub sender : List SenderCall
  pub receiver : List ReceiverCall
  pub metrics : History

abbrev pub no_calls : Log
no_calls = record { sender = []; receiver = []; metrics = [] }

abbrev pub end_note : EndCall → Log → Log
end_note (on_sender c) x = record { sender = c ∷ x.sender; receiver = x.receiver; metrics = x.metrics }
end_note (on_receiver c) x = record { sender = x.sender; receiver = c ∷ x.receiver; metrics = x.metrics }
end_note (on_metrics c) x = record { sender = x.sender; receiver = x.receiver; metrics = c ∷ x.metrics }

-- the arguments fit their types
abbrev pub end_fits : EndCall → Type 0
end_fits (on_sender c) = Unit {0}
end_fits (on_receiver c) = Unit {0}
end_fits (on_metrics c) = metrics_fits c

-- ---- two of them
pub data Side : Type 0 where
  west east : Side

pub record Two (A : Type 0) : Type 0 where
  pub west : A
  pub east : A

module _ {A : Type 0} where
  abbrev pub at : Side → Two A → A
  at Side.west t = t.west
  at Side.east t = t.east

  abbrev pub put : Side → A → Two A → Two A
  put Side.west a t = record { west = a; east = t.east }
  put Side.east a t = record { west = t.west; east = a }

pub record Call : Type 0 where
  pub side : Side
  pub call : EndCall

abbrev pub side_step : Side → EndCall → Two End → Step Answer (Two End)
side_step s c w = let r = end_step c (at s w) in record { refusal = r.refusal; answer = r.answer; state = put s r.state w }

abbrev pub ends : Machine
ends =
    record {
      World = Two End;
      Log = Two Log;
      Call = Call;
      Answer = Answer;
      Fits = λ c refusal x. end_fits c.call;
      step = λ c w. side_step c.side c.call w;
      note = λ c x. put c.side (end_note c.call (at c.side x)) x;
    }
