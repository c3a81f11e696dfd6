-- An estimator's step is numbers' step of the estimate that it holds.
use Rattle.std.proofs.Common.{◌≡◌, ℕ, ℤ, refl}
use Rattle.numbers.specs.RoundTrip.{Estimate, no_estimate, estimate, estimate_step}
use Rattle.numbers.specs.Signs.{as_unsigned}
use Rattle.algorithms.specs.Srtt.{estimate_in, holding, fresh, stepped, update_of}
use Rattle.algorithms.specs.declared.srtt.SrttEstimator.{SrttEstimator}

held_back : (e : Estimate) (r : ℕ) → estimate_in (holding (estimate_step e r)) ≡ estimate_step e r
unfolding estimate_in estimate_step
held_back no_estimate r = refl
held_back (estimate s v) r = refl

pub fresh_holds_none : estimate_in fresh ≡ no_estimate
unfolding estimate_in
fresh_holds_none = refl

-- any step is a step of the estimate
pub step_is_estimate_step : (s : SrttEstimator) (r : ℤ) → estimate_in (stepped s r) ≡ estimate_step (estimate_in s) (as_unsigned r)
unfolding stepped
step_is_estimate_step s r = held_back (estimate_in s) (as_unsigned r)

-- so is an accepted update
pub update_is_estimate_step : (s : SrttEstimator) (r : ℤ) → (update_of s r).refusal ≡ 0 → estimate_in (update_of s r).state ≡ estimate_step (estimate_in s) (as_unsigned r)
unfolding update_of
update_is_estimate_step s r h = rw h (step_is_estimate_step s r)
