-- An accepted sample leaves each trend between its old value and the sample, rounding included.
use Rattle.std.proofs.Common.{◌≡◌, ℕ, Bool, true, false, T, sym, true≢false}
use lib.Ieee.{Float, binary64, fits, le}
use Rattle.floats.specs.Operations.{weight, step}
use Rattle.floats.proofs.Ranges.{Within, within_finite}
use Rattle.floats.proofs.Smoothing.{ewma_between}
use Rattle.algorithms.specs.Ewma.{moved, stepped, update_of}
use Rattle.algorithms.specs.declared.ewma.DualEwma.{DualEwma}
use Rattle.algorithms.proofs.EwmaKeepsRule.{Floats, Trend, trend, kept, update_asked}

-- y lies between s and x
pub record Between (s x y : Float) : Type 0 where
  pub rising : T (le s x) → Within s x y
  pub falling : T (le x s) → Within x s y

trend_between : (n : ℕ) {s x : Float} → Trend s → Trend x → Between s x (step binary64 (weight n) s x)
trend_between n {s} {x} p q =
    let b = ewma_between binary64 n s x p.float q.float p.within.low q.within.low (within_finite tt tt p.within) (within_finite tt tt q.within) in
    record { rising = b.0; falling = b.1 }

moved_between : (begun : Bool) {s l x : Float} → begun ≡ true → Trend s → Trend l → Trend x → Between s x (moved begun s l x).short × Between l x (moved begun s l x).long
moved_between true e ps pl px = (trend_between _ ps px, trend_between _ pl px)
moved_between false e ps pl px = absurd (true≢false (sym e))

-- trends that have begun stay between
pub update_between : (s : DualEwma) (x : Float) → Floats s → T (fits binary64 x) → s.initialized ≡ true → (update_of s x).refusal ≡ 0
    → Between s.short x (update_of s x).state.short × Between s.long x (update_of s x).state.long
unfolding update_of stepped
update_between s x f fx e h =
    let y = update_asked s x h in
    let p = kept s y.0 in
    rw h (moved_between s.initialized e (trend s.short f.short p.short) (trend s.long f.long p.long) (trend x fx y.1))
