-- A difference of two naturals by the test of its sign, and as signed arithmetic has it.
use mathlib.Core.Path.{◌≡◌, refl}
use Prim.Native.Nat.{ℕ, zero, suc, ◌-◌, ◌≤◌, ◌<◌}
use native.Mathlib.Omega.{arith}
use lib.Dec.{ltb}
use lib.IntN.{ℤ, pos, negsuc, sub_ℕ, ◌-ℤ◌}
use borrow.Author.Tests.{ltb-true, ltb-false}
use Rattle.std.proofs.lemmas.Int.{ints}
use Rattle.refusals.proofs.PickedByTest.{picked}

-- by the test of the sign of a − b
module _ (P : ℤ → Type 0) (a b : ℕ) where
  pub by_sign : (a < b → P (negsuc (b - suc a))) → (b ≤ a → P (pos (a - b))) → P (sub_ℕ a b)
  by_sign below above = picked P (ltb a b) (λ e. below (ltb-true a b e)) (λ e. above (ltb-false a b e))

pub minus : (a b : ℕ) → pos a -ℤ pos b ≡ sub_ℕ a b
minus a zero = by_sign (λ z. pos a -ℤ pos 0 ≡ z) a 0 (λ l. absurd (omega arith)) (λ l. omega (arith, ints))
minus a (suc b) = refl
