-- The product of two ratios, rounded once, is from 0 to 1, and no smaller where a ratio is larger.
use Rattle.std.proofs.Common.{◌*◌, ◌^◌, ◌≤◌, false, T, le_trans, le_of_eq, lt_of_le_of_lt, mul-le-mul_right, mul_comm, mul-le-mul, mul-pos, pow_pos}
use native.Mathlib.Nat.{mul-mul-mul_comm}
use lib.Ieee.{Float, Format, low, mul, le}
use lib.Ieee.Positive.{num, den, den_pos}
use lib.Ieee.Scale.{grid}
use Rattle.floats.proofs.Ranges.{Within}
use Rattle.floats.proofs.At.{At, le_at_lem, at_le}
use Rattle.floats.proofs.Grid.{grid_le, grid_mono, held_one}
use Rattle.floats.proofs.Products.{mul_at}
use Rattle.floats.proofs.Complements.{unit_at, unit_le, units_within}
use Rattle.floats.specs.Operations.{zero_float, one_float}

-- a ratio: from 0 to 1, and no NaN
abbrev pub Ratio : Float → Type 0
Ratio = Within zero_float one_float

module _ (f : Format) (x y : Float) (hx : Ratio x) (hy : Ratio y) where
  product_le : grid f (num x * num y) (den x * den y) ≤ 2 ^ low f
  product_le =
      grid_le f (num x * num y) (den x * den y) (2 ^ low f) (mul-pos (den_pos x) (den_pos y)) (held_one f)
      (le_trans (mul-le-mul_right (2 ^ low f) (mul-le-mul (unit_le hx) (unit_le hy))) (le_of_eq (mul_comm (den x * den y) (2 ^ low f))))

  product_at : At (mul f x y) false (grid f (num x * num y) (den x * den y)) (2 ^ low f)
  product_at = mul_at f x y false false (num x) (den x) (num y) (den y) (den_pos x) (den_pos y) (unit_at hx) (unit_at hy) (lt_of_le_of_lt product_le (held_one f).under)

  pub product_ratio : Ratio (mul f x y)
  product_ratio = units_within f (mul f x y) (grid f (num x * num y) (den x * den y)) product_at product_le

pub product_monotone : (f : Format) (x x' y : Float) → Ratio x → Ratio x' → Ratio y → T (le x x') → T (le (mul f x y) (mul f x' y))
product_monotone f x x' y hx hx' hy h =
    let P = pow_pos (low f) in
    let c : num x * den x' ≤ num x' * den x = le_at_lem x x' (num x) (den x) (num x') (den x') (den_pos x) (den_pos x') (unit_at hx) (unit_at hx') h in
    let l : num x * num y * (den x' * den y) ≤ num x' * num y * (den x * den y) =
    le_trans (le_of_eq (mul-mul-mul_comm (num x) (num y) (den x') (den y))) (le_trans (mul-le-mul_right (num y * den y) c) (le_of_eq (mul-mul-mul_comm (num x') (den x) (num y) (den y)))) in
    at_le (mul f x y) (mul f x' y) (grid f (num x * num y) (den x * den y)) (2 ^ low f) (grid f (num x' * num y) (den x' * den y)) (2 ^ low f) P P (product_at f x y hx hy) (product_at f x' y hx' hy)
    (mul-le-mul_right (2 ^ low f)
    (grid_mono f (num x * num y) (den x * den y) (num x' * num y) (den x' * den y) (mul-pos (den_pos x) (den_pos y)) (mul-pos (den_pos x') (den_pos y))
    (lt_of_le_of_lt (product_le f x' y hx' hy) (held_one f).under) l))
