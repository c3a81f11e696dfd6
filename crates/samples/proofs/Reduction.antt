-- What reduction to 32 bits means: the result is within signed 32 bits, a number within them stays, and a whole span of 2^32 makes no difference.
use mathlib.Core.Path.{◌≡◌, ap, ◌∙◌}
use Prim.Native.Nat.{ℕ, suc, ◌+◌, ◌-◌, ◌*◌, ◌%◌, ◌^◌, ◌≤◌, ◌<◌}
use native.Mathlib.Omega.{arith}
use lib.IntN.{ℤ, pos, negsuc, sub_ℕ, ◌+ℤ◌}
use lib.Signed.{mag}
use mir.Syntax.{w32}
use mir.Val.{SFits, to_z, of_z}
use mir.Facts.{to_z-of_z, sfits_to_z}
use Rattle.samples.specs.Words.{modulo, reduced}
use Rattle.samples.proofs.Differences.{by_sign}

pub modulo_below : (z : ℤ) → modulo z < 2 ^ 32
unfolding modulo
modulo_below (pos n) = omega arith
modulo_below (negsuc n) = omega arith

-- a − b, where b is at most so many spans
pub modulo_difference : (a b spans : ℕ) → b ≤ 2 ^ 32 * spans → modulo (sub_ℕ a b) ≡ (a + (2 ^ 32 * spans - b)) % 2 ^ 32
unfolding modulo
modulo_difference a b spans h = by_sign (λ z. modulo z ≡ (a + (2 ^ 32 * spans - b)) % 2 ^ 32) a b (λ l. omega arith) (λ l. omega arith)

pub reduced_fits : (z : ℤ) → SFits w32 (reduced z)
unfolding reduced
reduced_fits z = sfits_to_z (record { fits = modulo_below z })

pub reduced_kept : (z : ℤ) → SFits w32 z → reduced z ≡ z
unfolding reduced modulo
reduced_kept z f = ap (to_z w32) (bits z f.sfits) ∙ to_z-of_z {w = w32} {z = z} f
  where
    bits : (z : ℤ) → mag z < 2 ^ 31 → modulo z ≡ of_z w32 z
    bits (pos n) h = omega arith
    bits (negsuc n) h = omega arith

modulo_again : (z : ℤ) (spans : ℕ) → modulo (z +ℤ pos (2 ^ 32 * spans)) ≡ modulo z
unfolding modulo
modulo_again (pos n) spans = omega arith
modulo_again (negsuc n) spans = by_sign (λ z. modulo z ≡ modulo (negsuc n)) (2 ^ 32 * spans) (suc n) (λ l. omega arith) (λ l. omega arith)

pub reduced_again : (z : ℤ) (spans : ℕ) → reduced (z +ℤ pos (2 ^ 32 * spans)) ≡ reduced z
unfolding reduced
reduced_again z spans = ap (to_z w32) (modulo_again z spans)
