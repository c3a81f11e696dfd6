-- 1 - x is from 0 to 1 where x is, rounding included.
use Rattle.std.proofs.Common.{◌≡◌, ℕ, ◌-◌, ◌*◌, ◌^◌, ◌≤◌, false, sym, refl, ◌∙◌, inl, zero-le, le_trans, le_of_eq, lt_of_le_of_lt, mul-le-mul_right, zero-lt-suc, mul_comm, one-mul, zero-mul, mul-one, arith, pow_pos}
use lib.Ieee.{Float, Format, low, sub}
use lib.Ieee.Positive.{num, den, den_pos}
use lib.Ieee.Scale.{grid}
use Rattle.floats.proofs.Ranges.{Within, within_finite}
use Rattle.floats.proofs.At.{At, own_at, le_at_lem, at_le}
use Rattle.floats.proofs.Grid.{grid_le, held_one}
use Rattle.floats.proofs.Sums.{sub_at}
use Rattle.floats.specs.Operations.{zero_float, one_float, complement}

-- a value from 0 to 1 by its own fraction, which is at most 1
pub unit_at : {x : Float} → Within zero_float one_float x → At x false (num x) (den x)
unit_at {x} w = own_at x w.low (within_finite tt tt w)

pub unit_le : {x : Float} → Within zero_float one_float x → num x ≤ den x
unit_le {x} w = let l = le_at_lem x one_float (num x) (den x) 1 1 (den_pos x) (zero-lt-suc 0) (unit_at w) (inl refl, refl) w.high in omega (arith, l)

-- a number of units up to the value 1
pub units_within : (f : Format) (x : Float) (g : ℕ) → At x false g (2 ^ low f) → g ≤ 2 ^ low f → Within zero_float one_float x
units_within f x g v l =
    let P = pow_pos (low f) in
    record {
      low = at_le zero_float x 0 1 g (2 ^ low f) (zero-lt-suc 0) P (inl refl, refl) v (le_trans (le_of_eq (zero-mul (2 ^ low f))) zero-le);
      high = at_le x one_float g (2 ^ low f) 1 1 P (zero-lt-suc 0) v (inl refl, refl) (le_trans (le_of_eq (mul-one g)) (le_trans l (le_of_eq (sym (one-mul (2 ^ low f))))));
    }

pub complement_within : (f : Format) {x : Float} → Within zero_float one_float x → Within zero_float one_float (complement f x)
unfolding complement
complement_within f {x} w =
    let c = den x in
    let D = den_pos x in
    let g = grid f (c - num x) c in
    let l : g ≤ 2 ^ low f = grid_le f (c - num x) c (2 ^ low f) D (held_one f) (le_trans (mul-le-mul_right (2 ^ low f) (less c (num x))) (le_of_eq (mul_comm c (2 ^ low f)))) in
    units_within f (sub f one_float x) g (sub_at f one_float x c (num x) c D (inl refl, one_is c) (unit_at w) (unit_le w) (lt_of_le_of_lt l (held_one f).under)) l
  where
    less : (a b : ℕ) → a - b ≤ a
    less a b = omega arith

    one_is : (d : ℕ) → 1 * 1 * d ≡ d * 1
    one_is d = one-mul d ∙ sym (mul-one d)
