-- An update of jitter that is refused is refused by 1.
use mathlib.Core.Path.{◌≡◌, refl}
use mathlib.Core.Bool.{Bool, true, false, cond}
use lib.Dec.{eqb}
use lib.IntN.{ℤ}
use Rattle.std.specs.Prelude.{Result, Ok, Err}
use Rattle.refusals.specs.Answers.{number, numbered, settled}
use Rattle.refusals.specs.Questions.{first_no}
use Rattle.refusals.specs.declared.refusal.Refused.{Refused}
use Rattle.algorithms.specs.Jitter.{keeps_the_rule, refusal_of, stepped, update_of}
use Rattle.algorithms.specs.declared.jitter.JitterEstimator.{JitterEstimator}

pub jitter_refused : (s : JitterEstimator) (d : ℤ) (e : Refused JitterEstimator) → settled (update_of s d) ≡ Err e → (number e.refusal ≡ refusal_of s) × (eqb (refusal_of s) 0 ≡ false)
unfolding settled update_of refusal_of first_no numbered
jitter_refused s d e h = go (keeps_the_rule s) h
  where
    go : (b : Bool)
        → ◌≡◌ {A = Result JitterEstimator (Refused JitterEstimator)} (cond (eqb (cond b 0 1) 0) (Ok (cond (eqb (cond b 0 1) 0) (stepped s d) s)) (Err (record { refusal = numbered (cond b 0 1); state = cond (eqb (cond b 0 1) 0) (stepped s d) s }))) (Err e)
        → (number e.refusal ≡ cond b 0 1) × (eqb (cond b 0 1) 0 ≡ false)
    go true h = absurd cc
    go false h = (cc, refl)
