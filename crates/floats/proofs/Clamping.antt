-- `clamped lo hi` ends in its range for every value but a NaN, and keeps the order.
use Rattle.std.proofs.Common.{Bool, true, false, cond, not, T}
use lib.Ieee.{Float, lt, le, is_nan}
use Rattle.floats.proofs.Order.{le_reflexive, le_transitive, lt_excludes_le, not_lt→le, compared}
use Rattle.floats.proofs.Ranges.{Within}
use Rattle.floats.specs.Operations.{clamped}

module _ (lo hi : Float) (ends : T (le lo hi)) where
  low_number : T (not (is_nan lo))
  low_number = (compared lo hi ends).0

  high_number : T (not (is_nan hi))
  high_number = (compared lo hi ends).1

  pub clamp_within : (x : Float) → T (not (is_nan x)) → Within lo hi (clamped lo hi x)
  unfolding clamped
  clamp_within x n = go (lt x lo) (lt hi x) (not_lt→le x lo n low_number) (not_lt→le hi x high_number n)
    where
      go : (a b : Bool) → (T (not a) → T (le lo x)) → (T (not b) → T (le x hi)) → Within lo hi (cond a lo (cond b hi x))
      go true b p q = record { low = le_reflexive lo low_number; high = ends }
      go false true p q = record { low = ends; high = le_reflexive hi high_number }
      go false false p q = record { low = p tt; high = q tt }

  pub clamp_monotone : (x y : Float) → T (le x y) → T (le (clamped lo hi x) (clamped lo hi y))
  unfolding clamped
  clamp_monotone x y k =
      go (lt x lo) (lt hi x) (lt y lo) (lt hi y)
      (not_lt→le x lo (compared x y k).0 low_number)
      (λ t. t)
      (not_lt→le hi x high_number (compared x y k).0)
      (λ t. t)
      (not_lt→le y lo (compared x y k).1 low_number)
      (not_lt→le hi y high_number (compared x y k).1)
    where
      go : (a b c d : Bool) → (T (not a) → T (le lo x)) → (T b → T (lt hi x)) → (T (not b) → T (le x hi)) → (T c → T (lt y lo)) → (T (not c) → T (le lo y)) → (T (not d) → T (le y hi))
          → T (le (cond a lo (cond b hi x)) (cond c lo (cond d hi y)))
      go true b true d xl xa xh yb yl yh = le_reflexive lo low_number
      go true b false true xl xa xh yb yl yh = ends
      go true b false false xl xa xh yb yl yh = yl tt
      go false b true d xl xa xh yb yl yh = absurd (lt_excludes_le y lo (yb tt) (le_transitive lo x y (xl tt) k))
      go false true false true xl xa xh yb yl yh = le_reflexive hi high_number
      go false true false false xl xa xh yb yl yh = absurd (lt_excludes_le hi x (xa tt) (le_transitive x y hi k (yh tt)))
      go false false false true xl xa xh yb yl yh = xh tt
      go false false false false xl xa xh yb yl yh = k
