-- An integer of at most 2^k, rounded once, is from 0 to 2^k.
use Rattle.std.proofs.Common.{ℕ, ◌+◌, ◌^◌, ◌≤◌, false, pos, sym, refl, inl, le_trans, le_of_eq, zero-lt-suc, mul-one, pow_pos, pow_mono, pow-add}
use lib.Ieee.{Float, Format, emax, low, of_int}
use lib.Ieee.Exact.{HasValue}
use lib.Ieee.Scale.{grid}
use Rattle.floats.proofs.At.{value→at}
use Rattle.floats.proofs.PowersAbove.{Below, fraction_below, units}
use Rattle.floats.proofs.Quotients.{integer_value}

-- a value of so many units, at most 2^k
pub units_within : (f : Format) (x : Float) (g k : ℕ) → HasValue x false g (2 ^ low f) → g ≤ 2 ^ (k + low f) → Below k x
units_within f x g k v h = fraction_below x g (2 ^ low f) k (pow_pos (low f)) (value→at x false false g (2 ^ low f) (inl refl) v) (le_trans h (le_of_eq (pow-add 2 k (low f))))

pub integer_units : (f : Format) (n k : ℕ) → k ≤ emax f → n ≤ 2 ^ k → grid f n 1 ≤ 2 ^ (k + low f)
integer_units f n k e h = units f n 1 k (zero-lt-suc 0) e (le_trans h (le_of_eq (sym (mul-one (2 ^ k)))))

pub integer_within : (f : Format) (n k : ℕ) → k ≤ emax f → n ≤ 2 ^ k → Below k (of_int f (pos n))
integer_within f n k e h = units_within f (of_int f (pos n)) (grid f n 1) k (integer_value f n (le_trans h (pow_mono e))) (integer_units f n k e h)
