-- A short and a long trend of one figure: document 01, "Round trip, ratios and trends". Definitions only.
use Rattle.std.specs.Prelude.{ℕ, Bool, true, false, cond, ◌&&◌, [], ◌∷◌, ◌==◌, Float}
use Rattle.std.specs.Float.{binary64}
use Rattle.limits.specs.Limits.{ewma_short_alpha, ewma_long_alpha}
use Rattle.floats.specs.Operations.{zero_float, step}
use Rattle.refusals.specs.Answers.{Answer, Update, answer}
use Rattle.refusals.specs.Questions.{question, first_no}
use Rattle.refusals.specs.Ranges.{trend_ok}
use Rattle.algorithms.specs.declared.ewma.DualEwma.{DualEwma}

-- document 01, "State rule": trends are 0 to 2^64, none NaN
unfoldable pub keeps_the_rule : DualEwma → Bool
keeps_the_rule s = trend_ok s.short && trend_ok s.long

-- no sample yet
abbrev pub fresh : DualEwma
fresh = record { short = zero_float; long = zero_float; initialized = false }

-- the first sample is both trends; a later one moves them by one quarter and one thirty-second, each operation rounded once
abbrev pub moved : Bool → Float → Float → Float → DualEwma
moved false short long x = record { short = x; long = x; initialized = true }
moved true short long x = record { short = step binary64 ewma_short_alpha short x; long = step binary64 ewma_long_alpha long x; initialized = true }

-- a sample, by whether one came before
unfoldable pub stepped : DualEwma → Float → DualEwma
stepped s x = moved s.initialized s.short s.long x

-- document 01, question 1 alone
unfoldable pub refusal_of : DualEwma → ℕ
refusal_of s = first_no (question 1 (keeps_the_rule s) ∷ [])

-- document 01, questions 1 and 11
unfoldable pub update_refusal : DualEwma → Float → ℕ
update_refusal s x = first_no (question 1 (keeps_the_rule s) ∷ question 11 (trend_ok x) ∷ [])

-- an update: the step, and the state as given on a refusal
unfoldable pub update_of : DualEwma → Float → Update DualEwma
update_of s x = record { refusal = update_refusal s x; state = cond (update_refusal s x == 0) (stepped s x) s }

-- the fields, and 0 or no on a refusal
abbrev pub short_of : DualEwma → Answer Float
short_of s = answer zero_float (refusal_of s) s.short

abbrev pub long_of : DualEwma → Answer Float
long_of s = answer zero_float (refusal_of s) s.long

abbrev pub initialized_of : DualEwma → Answer Bool
initialized_of s = answer false (refusal_of s) s.initialized
