-- What the public calls of the three records answer beside a refusal and the record: one case for each kind of answer. Definitions only.
use Rattle.std.specs.Prelude.{Bool, List, ℕ, ℤ, Float, Option}
use Rattle.wire.specs.declared.sender_report.SenderReport.{SenderReport}
use Rattle.wire.specs.declared.receiver_report.ReceiverReport.{ReceiverReport}
use Rattle.metrics.specs.declared.Outcome.{Outcome}
use Rattle.metrics.specs.declared.RrCounters.{RrCounters}
use Rattle.history.specs.Run.{Step}

-- what a question answers
pub data Fact : Type 0 where
  yes_or_no : Bool → Fact
  number : ℕ → Fact
  float : Float → Fact
  optional_number : Option ℕ → Fact
  optional_word : Option ℕ → Fact
  optional_float : Option Float → Fact
  -- counters of the report kept
  counters : Option RrCounters → Fact

pub data Answer : Type 0 where
  nothing : Answer
  told : Fact → Answer
  -- whether a report was built, and the report
  sender_report : Bool → SenderReport → Answer
  receiver_report : Bool → ReceiverReport → Answer
  -- the lent windows as the call left them
  windows : List ℕ → List ℤ → Answer
  -- what became of a report processed
  outcome : Outcome → Answer

-- a question's refusal number and its answer
pub record Told : Type 0 where
  pub refusal : ℕ
  pub fact : Fact

-- it leaves the record
abbrev pub staying : {State : Type 0} → State → Told → Step Answer State
staying s t = record { refusal = t.refusal; answer = Answer.told t.fact; state = s }
