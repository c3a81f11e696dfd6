-- Smoothed round trip as an estimator keeps it: document 01, "Round trip, ratios and trends". Definitions only.
use Rattle.std.specs.Prelude.{ℕ, Bool, true, false, cond, ◌&&◌, [], ◌∷◌, ℤ, pos, ◌==◌}
use Rattle.numbers.specs.RoundTrip.{Estimate, no_estimate, estimate, estimate_step}
use Rattle.numbers.specs.Signs.{as_unsigned}
use Rattle.refusals.specs.Answers.{Answer, Update, answer}
use Rattle.refusals.specs.Questions.{question, first_no}
use Rattle.refusals.specs.Ranges.{round_trip_ok}
use Rattle.algorithms.specs.declared.srtt.SrttEstimator.{SrttEstimator}

-- document 01, "State rule": SRTT and RTTVAR are 0 to 2^42, as a round trip is
unfoldable pub keeps_the_rule : SrttEstimator → Bool
keeps_the_rule s = round_trip_ok s.srtt_us && round_trip_ok s.rttvar_us

-- the estimate that a record holds: none before the first round trip, whatever its fields hold
unfoldable pub estimate_in : SrttEstimator → Estimate
estimate_in s = cond s.initialized (estimate (as_unsigned s.srtt_us) (as_unsigned s.rttvar_us)) no_estimate

-- the record of an estimate
abbrev pub holding : Estimate → SrttEstimator
holding no_estimate = record { srtt_us = pos 0; rttvar_us = pos 0; initialized = false }
holding (estimate s v) = record { srtt_us = pos s; rttvar_us = pos v; initialized = true }

-- no round trip yet
abbrev pub fresh : SrttEstimator
fresh = holding no_estimate

-- a round trip: R and R/2 at first, then RTTVAR from the old SRTT, each shifted term rounded down
unfoldable pub stepped : SrttEstimator → ℤ → SrttEstimator
stepped s r = holding (estimate_step (estimate_in s) (as_unsigned r))

-- document 01, question 1 alone
unfoldable pub refusal_of : SrttEstimator → ℕ
refusal_of s = first_no (question 1 (keeps_the_rule s) ∷ [])

-- document 01, questions 1 and 8
unfoldable pub update_refusal : SrttEstimator → ℤ → ℕ
update_refusal s r = first_no (question 1 (keeps_the_rule s) ∷ question 8 (round_trip_ok r) ∷ [])

-- an update: the step, and the state as given on a refusal
unfoldable pub update_of : SrttEstimator → ℤ → Update SrttEstimator
update_of s r = record { refusal = update_refusal s r; state = cond (update_refusal s r == 0) (stepped s r) s }

-- the fields, and 0 or no on a refusal
abbrev pub srtt_us_of : SrttEstimator → Answer ℤ
srtt_us_of s = answer (pos 0) (refusal_of s) s.srtt_us

abbrev pub rttvar_us_of : SrttEstimator → Answer ℤ
rttvar_us_of s = answer (pos 0) (refusal_of s) s.rttvar_us

abbrev pub initialized_of : SrttEstimator → Answer Bool
initialized_of s = answer false (refusal_of s) s.initialized
