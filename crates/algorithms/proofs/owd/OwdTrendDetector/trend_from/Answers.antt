-- The trend of n pairs, from their moments about the means that the sums give.
use Rattle.std.proofs.Common.{◌≡◌, ℕ, ◌^◌, ◌<◌, ◌≤◌, List, length, ℤ, pos, sym, refl, ◌∙◌, subst, w32, le-ltb, lt-ltb}
use lib.Signed.{mag}
use lib.Ieee.Casts.{to_signed_in}
use lib.Ieee.{Float, binary64, mul, div, of_int, of_bits}
use mir.ValLaws.{to_z-of_z}
use Rattle.floats.specs.Operations.{thousand_float}
use Rattle.refusals.proofs.PickedByTest.{yes, no}
use Rattle.algorithms.specs.Owd.{Pair, window}
use Rattle.algorithms.specs.OwdTrend.{time, delay, product, total, slope, trend_from}
use Rattle.algorithms.proofs.OwdStretches.{window_length}
use Rattle.algorithms.proofs.owd.OwdTrendDetector.trend_from.Goals as goal

module _ (sum-x sum-y : Float) (ps : List Pair) (n : ℕ) (count : length ps ≡ n) where
  few : n < 2 → pos 0 ≡ trend_from sum-x sum-y ps
  unfolding trend_from
  few h = rw (count, lt-ltb n 2 h)

  enough : 2 ≤ n → (n-f num den : Float) → n-f ≡ of_int binary64 (pos n)
      → num ≡ total (product time (div binary64 sum-x n-f) delay (div binary64 sum-y n-f)) ps → den ≡ total (product time (div binary64 sum-x n-f) time (div binary64 sum-x n-f)) ps
      → slope num den ≡ trend_from sum-x sum-y ps
  unfolding trend_from
  enough h n-f num den e p q = rw (count, le-ltb n 2 h, p, q, e)

pub returns-then-n-lt2 : goal.returns-then-n-lt2
returns-then-n-lt2 c =
    let a = c.args in
    few a.sums.x a.sums.y (window a.self a.times.now a.delays.now) a.self.count (window_length a.self a.times.now a.delays.now c.requires.0) c.if-n-lt2.true

pub returns-then-m : goal.returns-then-m
unfolding slope of_bits
returns-then-m c =
    let a = c.args in
    let m = c.window_moments-m in
    yes _ c.if-m.true refl
    ∙ enough a.sums.x a.sums.y (window a.self a.times.now a.delays.now) a.self.count (window_length a.self a.times.now a.delays.now c.requires.0) c.if-n-lt2.false
    (of_int binary64 (pos a.self.count)) m.result.num m.result.den refl m.ensures.0 m.ensures.1

pub returns : goal.returns
unfolding slope of_bits
returns c =
    let a = c.args in
    let m = c.window_moments-m in
    let z = mul binary64 (div binary64 m.result.num m.result.den) thousand_float in
    to_z-of_z w32 c.to_i32.result (record { sfits = subst (λ (k : ℤ). mag k < 2 ^ 31) (sym c.to_i32.ensures) (to_signed_in 31 z) })
    ∙ no _ c.if-m.false c.to_i32.ensures
    ∙ enough a.sums.x a.sums.y (window a.self a.times.now a.delays.now) a.self.count (window_length a.self a.times.now a.delays.now c.requires.0) c.if-n-lt2.false
    (of_int binary64 (pos a.self.count)) m.result.num m.result.den refl m.ensures.0 m.ensures.1
