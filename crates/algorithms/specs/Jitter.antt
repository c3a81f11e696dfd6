-- Interarrival jitter as an estimator keeps it: document 01, "Jitter, delay trend and bursts". Definitions only.
use Rattle.std.specs.Prelude.{ℕ, ◌^◌, Bool, cond, ◌&&◌, [], ◌∷◌, ℤ, pos, ◌==◌, int_le, unsigned_abs}
use Rattle.numbers.specs.Jitter.{jitter_step, reported}
use Rattle.numbers.specs.Signs.{as_unsigned}
use Rattle.refusals.specs.Answers.{Answer, Update}
use Rattle.refusals.specs.Questions.{question, first_no}
use Rattle.algorithms.specs.declared.jitter.JitterEstimator.{JitterEstimator}

-- document 01, "State rule": scaled jitter is 0 to 2^35
abbrev pub keeps_the_rule : JitterEstimator → Bool
keeps_the_rule s = int_le (pos 0) s.jitter_q4 && int_le s.jitter_q4 (pos (2 ^ 35))

-- document 01, question 1 alone
unfoldable pub refusal_of : JitterEstimator → ℕ
refusal_of s = first_no (question 1 (keeps_the_rule s) ∷ [])

-- 0 before any difference
abbrev pub fresh : JitterEstimator
fresh = record { jitter_q4 = pos 0 }

-- scaled J gains |D| less J/16 rounded down
unfoldable pub stepped : JitterEstimator → ℤ → JitterEstimator
stepped s d = record { jitter_q4 = pos (jitter_step (as_unsigned s.jitter_q4) (unsigned_abs d)) }

-- an update: the step, and the state as given on a refusal
unfoldable pub update_of : JitterEstimator → ℤ → Update JitterEstimator
update_of s d = record { refusal = refusal_of s; state = cond (refusal_of s == 0) (stepped s d) s }

-- the jitter: J/16 rounded down is reported, and 0 on a refusal
unfoldable pub jitter_us_of : JitterEstimator → Answer ℕ
jitter_us_of s = record { refusal = refusal_of s; value = cond (refusal_of s == 0) (reported (as_unsigned s.jitter_q4)) 0 }
