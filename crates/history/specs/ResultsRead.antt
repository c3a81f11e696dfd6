-- What the public functions of the three records give, read as a step of the table: the refusal's number, the answer, and the record after. Definitions only.
use Rattle.std.specs.Prelude.{Bool, true, false, Option, None, Some, Result, Ok, Err}
use Rattle.refusals.specs.Answers.{number, refusal_in, value_in}
use Rattle.refusals.specs.declared.refusal.Refusal.{Refusal}
use Rattle.refusals.specs.declared.refusal.Refused.{Refused}
use Rattle.history.specs.Run.{Step}
use Rattle.history.specs.Answers.{Fact, Answer, Told}

-- a question: the value, or nothing beside a refusal, as a fact of this kind
abbrev pub asked : {A : Type 0} → (A → Fact) → A → Result A Refusal → Told
asked fact nothing r = record { refusal = refusal_in r; fact = fact (value_in nothing r) }

-- a call that hands back a record and no more
abbrev pub moved : {S : Type 0} → Result S (Refused S) → Step Answer S
moved (Ok s) = record { refusal = 0; answer = Answer.nothing; state = s }
moved (Err e) = record { refusal = number e.refusal; answer = Answer.nothing; state = e.state }

-- one that answers beside it: nothing beside a refusal
abbrev pub moved_with : {S A : Type 0} → (A → Answer) → A → Result (S × A) (Refused S) → Step Answer S
moved_with say nothing (Ok r) = record { refusal = 0; answer = say r.1; state = r.0 }
moved_with say nothing (Err e) = record { refusal = number e.refusal; answer = say nothing; state = e.state }

-- a report as an answer: whether there is one, and the report, zeros where there is none
abbrev pub report_or : {R : Type 0} → (Bool → R → Answer) → R → Option R → Answer
report_or say zeros None = say false zeros
report_or say zeros (Some report) = say true report

-- the record that a constructor hands back
abbrev pub handed : {S : Type 0} → Result S (Refused S) → S
handed (Ok s) = s
handed (Err e) = e.state
