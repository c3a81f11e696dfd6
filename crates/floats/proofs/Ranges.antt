-- A value from lo to hi: the test `inRange` decides it, a NaN is in no range, and -0.0 is in every range that 0.0 is in.
use Rattle.std.proofs.Common.{◌≡◌, true, false, not, T, pos, refl}
use lib.Ieee.{Float, nan, inf, fin, le, is_nan}
use lib.Ieee.Bits.{is_true}
use lib.Ieee.Fits.{and_i, and_l, and_r}
use lib.Ieee.Scale.{finite}
use Rattle.floats.proofs.Tests.{passed}
use Rattle.floats.proofs.Order.{le_transitive, compared}
use Rattle.floats.specs.Operations.{zero_float, in_range}

-- x lies from lo to hi, and is no NaN
pub record Within (lo hi x : Float) : Type 0 where
  pub low : T (le lo x)
  pub high : T (le x hi)

pub in_range→within : (lo hi x : Float) → in_range lo hi x ≡ true → Within lo hi x
in_range→within lo hi x e = let t = passed e in record { low = and_l (le lo x) (le x hi) t; high = and_r (le lo x) (le x hi) t }

pub within→in_range : (lo hi x : Float) → Within lo hi x → in_range lo hi x ≡ true
within→in_range lo hi x w = is_true (in_range lo hi x) (and_i (le lo x) (le x hi) w.low w.high)

-- ---- what lies in a range
pub within_number : {lo hi x : Float} → Within lo hi x → T (not (is_nan x))
within_number {lo} {hi} {x} w = (compared lo x w.low).1

pub within_finite : {lo hi x : Float} → T (finite lo) → T (finite hi) → Within lo hi x → T (finite x)
unfolding le
within_finite {lo} {hi} {x} a b w = go lo hi x a b w.low w.high
  where
    go : (lo hi x : Float) → T (finite lo) → T (finite hi) → T (le lo x) → T (le x hi) → T (finite x)
    go nan hi x a b l h = absurd a
    go (inf s) hi x a b l h = absurd a
    go (fin s m e) nan x a b l h = absurd b
    go (fin s m e) (inf t) x a b l h = absurd b
    go (fin s m e) (fin t n d) nan a b l h = h
    go (fin s m e) (fin t n d) (inf true) a b l h = l
    go (fin s m e) (fin t n d) (inf false) a b l h = h
    go (fin s m e) (fin t n d) (fin u o g) a b l h = tt

-- a NaN is in no range
pub nan_outside : (lo hi : Float) → in_range lo hi nan ≡ false
unfolding le
nan_outside nan hi = refl
nan_outside (inf s) hi = refl
nan_outside (fin s m e) hi = refl

-- -0.0
abbrev pub minus_zero : Float
minus_zero = fin true 0 (pos 0)

-- each zero is at most the other
pub zeros_level : T (le zero_float minus_zero) × T (le minus_zero zero_float)
unfolding le
zeros_level = (tt, tt)

-- so -0.0 is in every range that 0.0 is in
pub minus_zero_within : {lo hi : Float} → Within lo hi zero_float → Within lo hi minus_zero
minus_zero_within {lo} {hi} w = record {
  low = le_transitive lo zero_float minus_zero w.low zeros_level.0;
  high = le_transitive minus_zero zero_float hi zeros_level.1 w.high;
}
