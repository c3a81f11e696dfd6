-- The delay trend, float for float: document 01, "Jitter, delay trend and bursts"; algorithms.rs, `trend_us_per_sec`. Definitions only.
use Rattle.std.specs.Prelude.{ℕ, cond, List, [], ◌∷◌, length, ℤ, pos, ◌==◌, nat_lt, Float}
use Rattle.std.specs.Float.{binary64}
use Rattle.std.specs.Float.Ieee.{add, sub, mul, div, lt, of_int, to_signed}
use Rattle.floats.specs.Operations.{zero_float, thousand_float, weight}
use Rattle.refusals.specs.Answers.{Answer}
use Rattle.refusals.specs.Questions.{question, first_no}
use Rattle.algorithms.specs.Owd.{Pair, keeps_the_rule, windows_ok, window, samples_ok}
use Rattle.algorithms.specs.declared.owd.OwdTrendDetector.{OwdTrendDetector}

-- 2^−52, f64's epsilon
abbrev pub epsilon : Float
epsilon = weight 51

-- a pair's receive time and delay, each rounded once to a float
abbrev pub time : Pair → Float
time p = of_int binary64 (pos p.at_ms)

abbrev pub delay : Pair → Float
delay p = of_int binary64 p.owd_us

-- start + f p + f q + .., oldest pair first, each sum rounded once
unfoldable pub plus : (Pair → Float) → Float → List Pair → Float
plus f start [] = start
plus f start (p ∷ ps) = plus f (add binary64 start (f p)) ps

-- the sum from 0.0 on
abbrev pub total : (Pair → Float) → List Pair → Float
total f = plus f zero_float

-- a sum over pairs, divided by how many there are
abbrev pub mean : Float → List Pair → Float
mean sum ps = div binary64 sum (of_int binary64 (pos (length ps)))

-- (f p − a) × (g p − b)
abbrev pub product : (Pair → Float) → Float → (Pair → Float) → Float → Pair → Float
product f a g b p = mul binary64 (sub binary64 (f p) a) (sub binary64 (g p) b)

-- num / den in µs per second, cut toward zero and saturated at the ends of i32; 0 where den is below 2^−52. That algorithms.rs clamps to i32's range
-- before the cast changes nothing: floats' `cast_clamped`
unfoldable pub slope : Float → Float → ℤ
slope num den = cond (lt den epsilon) (pos 0) (to_signed 31 (mul binary64 (div binary64 num den) thousand_float))

-- the slope about the means that the sums give; 0 for fewer than two pairs
unfoldable pub trend_from : Float → Float → List Pair → ℤ
trend_from sum-x sum-y ps =
    let x = mean sum-x ps in
    let y = mean sum-y ps in
    cond (nat_lt (length ps) 2) (pos 0) (slope (total (product time x delay y) ps) (total (product time x time x) ps))

-- the trend of a window
unfoldable pub trend_of : List Pair → ℤ
trend_of ps = trend_from (total time ps) (total delay ps) ps

-- question 5 of every live pair, then the trend
unfoldable pub live_trend : List Pair → Answer ℤ
live_trend ps = record { refusal = cond (samples_ok ps) 0 5; value = cond (samples_ok ps) (trend_of ps) (pos 0) }

-- questions 1, 4 and 5 of every live sample, then the trend
unfoldable pub trend_answer : OwdTrendDetector → List ℕ → List ℤ → Answer ℤ
trend_answer s times delays =
    let refusal = first_no (question 1 (keeps_the_rule s) ∷ question 4 (windows_ok s (length times) (length delays)) ∷ question 5 (samples_ok (window s times delays)) ∷ []) in
    record { refusal = refusal; value = cond (refusal == 0) (trend_of (window s times delays)) (pos 0) }
