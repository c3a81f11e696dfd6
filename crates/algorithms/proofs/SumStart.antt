-- A sum of integers cast to floats is the same from -0.0, where the Rust's `sum` starts, as from 0.0: no such cast is -0.0.
use Rattle.std.proofs.Common.{◌≡◌, ℕ, zero, suc, ◌*◌, ◌<◌, ◌≤◌, Bool, true, false, T, List, ◌∷◌, ℤ, pos, negsuc, refl, ap, subst, zero-lt-suc, zero-add, zero-mul, arith, lt-ltb}
use native.Mathlib.Nat.{sub-zero}
use lib.Ieee.{Float, nan, inf, fin, Format, binary64, up, down, round, neg, sum, add, le, fits, of_int}
use lib.Ieee.Fits.{down_pos}
use lib.Ieee.Order.{round_mono}
use Rattle.floats.specs.Operations.{zero_float, one_float}
use Rattle.floats.proofs.Fractions.{le→ordered}
use Rattle.floats.proofs.Ranges.{minus_zero}
use Rattle.floats.proofs.Rounding.{round_held, round_neg}
use Rattle.algorithms.specs.Owd.{Pair}
use Rattle.algorithms.specs.OwdTrend.{time, delay, plus}

-- an integer from 1 on is at least 1 as a float
from_one : (n : ℕ) → 1 ≤ n → T (le one_float (round binary64 false n 1))
from_one n h = subst (λ (z : Float). T (le z (round binary64 false n 1))) (round_held binary64 false 1 (pos 0) (unfold fits in tt)) (round_mono binary64 1 1 n 1 (zero-lt-suc 0) (zero-lt-suc 0) (omega arith))

-- a zero of either sign and a part above 0
sum_above : (f : Format) (t : Bool) (b c : ℕ) → 0 < b → sum f true 0 t b c ≡ sum f false 0 t b c
unfolding sum
sum_above f true b c h = rw (lt-ltb 0 b h, zero-add b, sub-zero b) refl
sum_above f false b c h = rw (lt-ltb 0 b h, zero-add b, sub-zero b) refl

module _ (f : Format) where
  above : (m : ℕ) (e : ℤ) → down e ≤ m * up e → 0 < m * up e * 1
  above m e h = let p = down_pos e in omega arith

  start_above : (t : Bool) (m : ℕ) (e : ℤ) → down e ≤ m * up e → add f minus_zero (fin t m e) ≡ add f zero_float (fin t m e)
  unfolding add
  start_above t m e h = rw (zero-mul (down e)) (sum_above f t (m * up e * 1) (1 * down e) (above m e h))

  start : (y : Float) → T (le one_float y) → (add f minus_zero y ≡ add f zero_float y) × (add f minus_zero (neg y) ≡ add f zero_float (neg y))
  unfolding add le neg
  start nan h = absurd h
  start (inf t) h = (refl, refl)
  start (fin true m e) h = absurd (let z = (le→ordered 1 (pos 0) m e false true h).0 in omega arith)
  start (fin false m e) h = let k = le→ordered 1 (pos 0) m e false false h in let l : down e ≤ m * up e = omega (arith, k) in (start_above false m e l, start_above true m e l)

pub cast_starts : (z : ℤ) → add binary64 minus_zero (of_int binary64 z) ≡ add binary64 zero_float (of_int binary64 z)
unfolding of_int add
cast_starts (pos zero) = refl
cast_starts (pos (suc n)) = (start binary64 (round binary64 false (suc n) 1) (from_one (suc n) (omega arith))).0
cast_starts (negsuc n) = rw (round_neg binary64 (suc n) 1) (start binary64 (round binary64 false (suc n) 1) (from_one (suc n) (omega arith))).1

-- the trend's two sums, of one pair or more
pub times_start : (p : Pair) (ps : List Pair) → plus time minus_zero (p ∷ ps) ≡ plus time zero_float (p ∷ ps)
unfolding plus
times_start p ps = ap (λ (t : Float). plus time t ps) (cast_starts (pos p.at_ms))

pub delays_start : (p : Pair) (ps : List Pair) → plus delay minus_zero (p ∷ ps) ≡ plus delay zero_float (p ∷ ps)
unfolding plus
delays_start p ps = ap (λ (t : Float). plus delay t ps) (cast_starts p.owd_us)
