-- What a question's answer is to a list of calls: its refusal number, and its value as a fact. Definitions only.
use Rattle.std.specs.Prelude.{Bool, ℕ, Float, Option}
use Rattle.refusals.specs.Answers as answers
use Rattle.metrics.specs.declared.RrCounters.{RrCounters}
use Rattle.history.specs.Answers.{Fact, Told}

-- an answer's value as a fact of this kind
abbrev pub telling : {A : Type 0} → (A → Fact) → answers.Answer A → Told
telling fact r = record { refusal = r.refusal; fact = fact r.value }

abbrev pub bool : answers.Answer Bool → Told
bool = telling Fact.yes_or_no

abbrev pub u32 : answers.Answer ℕ → Told
u32 = telling Fact.number

abbrev pub u64 : answers.Answer ℕ → Told
u64 = telling Fact.number

abbrev pub f64 : answers.Answer Float → Told
f64 = telling Fact.float

abbrev pub optional_u32 : answers.Answer (Option ℕ) → Told
optional_u32 = telling Fact.optional_word

abbrev pub optional_u64 : answers.Answer (Option ℕ) → Told
optional_u64 = telling Fact.optional_number

abbrev pub optional_f64 : answers.Answer (Option Float) → Told
optional_f64 = telling Fact.optional_float

abbrev pub counters : answers.Answer (Option RrCounters) → Told
counters = telling Fact.counters

-- `keeps_rule` is not refused
abbrev pub rule : Bool → Told
rule r = record { refusal = 0; fact = Fact.yes_or_no r }
