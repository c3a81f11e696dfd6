-- Bytes over milliseconds as bytes a second, and the goodput smoothed by them, are from 0 to 2^74.
use Rattle.std.specs.Prelude.{None, Option, Some}
use mathlib.Core.Path.{◌≡◌, refl, sym, ap, ◌∙◌, subst}
use mathlib.Core.Logic.{inl, inr}
use Prim.Native.Nat.{ℕ, suc, ◌+◌, ◌-◌, ◌*◌, ◌^◌, ◌≤◌, ◌<◌}
use native.Mathlib.Nat.{le_trans, le_of_eq, lt_of_lt_of_le, lt_of_le_of_lt, zero-lt-suc, eq-zero-or-pos, one-mul, mul-one, mul_comm, mul_assoc, mul-le-mul_right, mul-le-mul_left, mul-pos}
use native.Mathlib.Omega.{arith}
use mathlib.Core.Bool.{Bool, true, false, cond}
use lib.IntN.{pos}
use lib.Dec.{T, lit≤}
use lib.Pow.{pow-add, pow_pos, pow-lt, pow_mono}
use lib.Ieee.{Float, Format, binary64, emax, low, add, sub, mul, div, lt, le, eq, of_int, fits}
use lib.Ieee.Fits.{add-fits, div-fits}
use lib.Ieee.Digits.{back}
use lib.Ieee.Exact.{HasValue}
use lib.Ieee.Scale.{grid, overflow, round_val}
use Rattle.floats.specs.Operations.{zero_float, one_quarter, step, thousand_float}
use Rattle.floats.proofs.Grid.{grid_le, grid_ge, held_power, held_two_to}
use Rattle.floats.proofs.Products.{mul_commutes}
use Rattle.floats.proofs.Quotients.{div_is, integer_under, integer_value}
use Rattle.floats.proofs.Ranges.{Within}
use Rattle.floats.proofs.Smoothing.{ewma_within}
use Rattle.figures.specs.Goodput.{max_goodput, seconds_of, rate_of, toward_rate, goodput_over, goodput_after}
use Rattle.floats.proofs.IntegersInRange.{units_within, integer_units}

-- ---- bytes a second: a millisecond or more is at least 2^-10 of a second
module _ (f : Format) (small : 10 ≤ low f) (great : 74 ≤ emax f) (bytes ms : ℕ) (some : 0 < ms) (clock : ms ≤ 2 ^ 48) (word : bytes ≤ 2 ^ 64) where
  seconds : ℕ
  seconds = grid f (grid f ms 1 * 1) (1000 * 2 ^ low f)

  tenth_split : 2 ^ (low f - 10) * 2 ^ 10 ≡ 2 ^ low f
  tenth_split = sym (pow-add 2 (low f - 10) 10) ∙ ap (λ (z : ℕ). 2 ^ z) (back (low f) 10 small)

  thousand_above : 0 < 1000 * 2 ^ low f
  thousand_above = mul-pos (zero-lt-suc 999) (pow_pos (low f))

  held_clock : 48 ≤ emax f
  held_clock = omega arith

  ms_held : ms ≤ 2 ^ emax f
  ms_held = le_trans clock (pow_mono held_clock)

  ms_at_least : 2 ^ low f ≤ grid f ms 1
  ms_at_least = grid_ge f ms 1 (2 ^ low f) (zero-lt-suc 0) (held_power f (low f) (pow-lt (wide (low f) (emax f)))) (integer_under f ms ms_held) (le_trans (le_of_eq (mul_comm (2 ^ low f) 1)) (mul-le-mul_right (2 ^ low f) some))
    where
      wide : (l e : ℕ) → l < l + suc e
      wide l e = omega arith

  seconds_at_most : seconds ≤ 2 ^ (48 + low f)
  unfolding seconds
  seconds_at_most =
      grid_le f (grid f ms 1 * 1) (1000 * 2 ^ low f) (2 ^ (48 + low f)) thousand_above (held_two_to f 48 held_clock)
      (le_trans (mul-le-mul_right (2 ^ low f) (le_trans (le_of_eq (mul-one (grid f ms 1))) (integer_units f ms 48 held_clock clock)))
      (mul-le-mul_left (2 ^ (48 + low f)) (le_trans (le_of_eq (sym (one-mul (2 ^ low f)))) (mul-le-mul_right (2 ^ low f) (lit≤ tt)))))

  seconds_under : seconds < overflow f
  seconds_under = lt_of_le_of_lt seconds_at_most (held_two_to f 48 held_clock).under

  seconds_at_least : 2 ^ (low f - 10) ≤ seconds
  unfolding seconds
  seconds_at_least =
      let p = 2 ^ (low f - 10) in
      let u = 2 ^ low f in
      grid_ge f (grid f ms 1 * 1) (1000 * u) p thousand_above (held_power f (low f - 10) (lt_of_le_of_lt (pow_mono (less (low f))) (pow-lt (wide (low f) (emax f))))) seconds_under
      (le_trans (mul-le-mul_left p (mul-le-mul_right u (let i : 1000 ≤ 2 ^ 10 = lit≤ tt in i)))
      (le_trans (le_of_eq (sym (mul_assoc p (2 ^ 10) u) ∙ ap (λ (z : ℕ). z * u) tenth_split))
      (mul-le-mul_right u (le_trans ms_at_least (le_of_eq (sym (mul-one (grid f ms 1))))))))
    where
      less : (l : ℕ) → l - 10 ≤ l
      less l = omega arith

      wide : (l e : ℕ) → l < l + suc e
      wide l e = omega arith

  seconds_above : 0 < seconds
  seconds_above = lt_of_lt_of_le (pow_pos (low f - 10)) seconds_at_least

  seconds_value : HasValue (seconds_of f ms) false seconds (2 ^ low f)
  unfolding seconds_of seconds
  seconds_value =
      subst (λ (z : Float). HasValue z false seconds (2 ^ low f))
      (sym (div_is f (of_int f (pos ms)) thousand_float (grid f ms 1) (2 ^ low f) 1000 1 (zero-lt-suc 999) (pow_pos (low f)) (zero-lt-suc 0) (integer_value f ms ms_held) (refl, refl)))
      (round_val f (grid f ms 1 * 1) (1000 * 2 ^ low f) seconds_under)

  rate : ℕ
  rate = grid f (grid f bytes 1 * 2 ^ low f) (seconds * 2 ^ low f)

  rate_at_most : rate ≤ 2 ^ (74 + low f)
  unfolding rate
  rate_at_most =
      let u = 2 ^ low f in
      let b : grid f bytes 1 ≤ 2 ^ (64 + low f) = integer_units f bytes 64 (let i : 64 ≤ emax f = omega arith in i) word in
      let e : 2 ^ (64 + low f) * u ≤ 2 ^ (74 + low f) * seconds =
      le_trans (le_of_eq (ap (λ (z : ℕ). 2 ^ (64 + low f) * z) (sym tenth_split) ∙ ap (λ (z : ℕ). 2 ^ (64 + low f) * z) (mul_comm (2 ^ (low f - 10)) (2 ^ 10)) ∙ sym (mul_assoc (2 ^ (64 + low f)) (2 ^ 10) (2 ^ (low f - 10)))
      ∙ ap (λ (z : ℕ). z * 2 ^ (low f - 10)) (sym (pow-add 2 (64 + low f) 10) ∙ ap (λ (z : ℕ). 2 ^ z) (seventy_four (low f)))))
      (mul-le-mul_left (2 ^ (74 + low f)) seconds_at_least) in
      grid_le f (grid f bytes 1 * u) (seconds * u) (2 ^ (74 + low f)) (mul-pos seconds_above (pow_pos (low f))) (held_two_to f 74 great)
      (le_trans (mul-le-mul_right u (mul-le-mul_right u b)) (le_trans (mul-le-mul_right u e) (le_of_eq (mul_assoc (2 ^ (74 + low f)) seconds u))))
    where
      seventy_four : (l : ℕ) → 64 + l + 10 ≡ 74 + l
      seventy_four l = omega arith

  pub rate_within : Within zero_float max_goodput (rate_of f bytes ms)
  unfolding rate_of rate
  rate_within =
      units_within f (div f (of_int f (pos bytes)) (seconds_of f ms)) rate 74
      (subst (λ (z : Float). HasValue z false rate (2 ^ low f))
      (sym (div_is f (of_int f (pos bytes)) (seconds_of f ms) (grid f bytes 1) (2 ^ low f) seconds (2 ^ low f) seconds_above (pow_pos (low f)) (pow_pos (low f)) (integer_value f bytes (le_trans word (pow_mono (let i : 64 ≤ emax f = omega arith in i)))) seconds_value))
      (round_val f (grid f bytes 1 * 2 ^ low f) (seconds * 2 ^ low f) (lt_of_le_of_lt rate_at_most (held_two_to f 74 great).under)))
      rate_at_most

-- ---- the smoothed goodput
-- its step is a trend's, with the factors the other way round
swapped : (g b : Float) → add binary64 g (mul binary64 (sub binary64 b g) one_quarter) ≡ step binary64 one_quarter g b
unfolding step
swapped g b = ap (λ (z : Float). add binary64 g z) (mul_commutes binary64 (sub binary64 b g) one_quarter)

-- no time, no seconds
some_time : (ms : ℕ) → T (lt zero_float (seconds_of binary64 ms)) → 0 < ms
some_time ms h = elim (eq-zero-or-pos ms) [ inl z ↦ absurd (closed (subst (λ (n : ℕ). T (lt zero_float (seconds_of binary64 n))) z h)) | inr p ↦ p ]
  where
    closed : T (lt zero_float (seconds_of binary64 0)) → ⊥
    closed t = unfold lt seconds_of of_int div in t

rate_fits : (bytes ms : ℕ) → T (fits binary64 (rate_of binary64 bytes ms))
unfolding rate_of
rate_fits bytes ms = div-fits binary64 (of_int binary64 (pos bytes)) (seconds_of binary64 ms)

-- a goodput: an f64 from 0 to 2^74
pub record Goodput (x : Float) : Type 0 where
  pub float : T (fits binary64 x)
  pub within : Within zero_float max_goodput x

over_kept : (g : Float) (bytes ms : ℕ) → Goodput g → ms ≤ 2 ^ 48 → bytes ≤ 2 ^ 64 → Goodput (goodput_over g bytes ms)
unfolding goodput_over toward_rate
over_kept g bytes ms k clock word =
    go (lt zero_float (seconds_of binary64 ms)) (eq g zero_float) (λ t. rate_within binary64 (lit≤ tt) (lit≤ tt) bytes ms (some_time ms t) clock word)
  where
    b : Float
    b = rate_of binary64 bytes ms

    go : (s z : Bool) → (T s → Within zero_float max_goodput b) → Goodput (cond s (cond z b (add binary64 g (mul binary64 (sub binary64 b g) one_quarter))) g)
    go false z w = k
    go true true w = record { float = rate_fits bytes ms; within = w tt }
    go true false w = record {
      float = add-fits binary64 g (mul binary64 (sub binary64 b g) one_quarter);
      within = subst (Within zero_float max_goodput) (sym (swapped g b)) (ewma_within binary64 1 k.float (rate_fits bytes ms) (unfold le in tt) tt k.within (w tt));
    }

-- a report keeps the goodput in its range, whatever the clocks say
pub goodput_kept : (g : Float) (bytes : ℕ) (before : Option ℕ) (now : ℕ) → Goodput g → now ≤ 2 ^ 48 → bytes ≤ 2 ^ 64 → Goodput (goodput_after g bytes before now)
unfolding goodput_after
goodput_kept g bytes None now k clock word = k
goodput_kept g bytes (Some before) now k clock word = over_kept g bytes (now - before) k (omega arith) word
