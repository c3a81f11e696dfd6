-- What a call that nothing refuses knows of its arguments.
use mathlib.Core.Path.{◌≡◌, refl}
use mathlib.Core.Bool.{Bool, true, ◌&&◌, and-eq-true_iff}
use mathlib.Core.List.{[], ◌∷◌}
use Prim.Native.Nat.{ℕ, ◌≤◌}
use lib.IntN.{ℤ}
use borrow.Author.Tests.{leb-true}
use Rattle.refusals.specs.Questions.{question}
use Rattle.refusals.specs.Ranges.{max_clock, clock_ok, smoothed_ok, bounds_ok}
use Rattle.refusals.proofs.FirstNoFound.{each_yes}
use Rattle.pace.specs.Updates.{cold_start_refusal, from_srtt_refusal, with_bounds_refusal}

pub cold_start_asked : (ms : ℕ) → cold_start_refusal ms ≡ 0 → clock_ok ms ≡ true
unfolding cold_start_refusal
cold_start_asked ms h = (each_yes (question 2 (clock_ok ms) ∷ []) refl h).0

pub from_srtt_asked : (ok : Bool) (srtt : ℤ) → from_srtt_refusal ok srtt ≡ 0 → (ok ≡ true) × (smoothed_ok srtt ≡ true)
unfolding from_srtt_refusal
from_srtt_asked ok srtt h = let y = each_yes (question 1 ok ∷ question 8 (smoothed_ok srtt) ∷ []) refl h in (y.0, y.1.0)

pub record BoundsAsked (ok : Bool) (srtt : ℤ) (lo hi : ℕ) : Type 0 where
  pub rule : ok ≡ true
  pub lower : lo ≤ max_clock
  pub upper : hi ≤ max_clock
  pub smoothed : smoothed_ok srtt ≡ true

pub with_bounds_asked : (ok : Bool) (srtt : ℤ) (lo hi : ℕ) → with_bounds_refusal ok srtt lo hi ≡ 0 → BoundsAsked ok srtt lo hi
unfolding with_bounds_refusal
with_bounds_asked ok srtt lo hi h =
    let y = each_yes (question 1 ok ∷ question 2 (clock_ok lo && clock_ok hi) ∷ question 8 (smoothed_ok srtt) ∷ question 9 (bounds_ok srtt lo hi) ∷ []) refl h in
    let bounds = (and-eq-true_iff (clock_ok lo) (clock_ok hi)).0 y.1.0 in
    record { rule = y.0; lower = leb-true lo max_clock bounds.0; upper = leb-true hi max_clock bounds.1; smoothed = y.1.1.0 }
