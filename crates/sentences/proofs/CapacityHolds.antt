-- THE CAPACITY of a new window is the requested size, clamped; and a window that is wider than that is refused by 1, whatever is lent beside it.
use Rattle.std.specs.Prelude.{Option}
use mathlib.Core.Path.{◌≡◌, refl}
use mathlib.Core.Bool.{true, false}
use mathlib.Core.List.{List}
use Prim.Native.Nat.{ℕ, ◌<◌}
use native.Mathlib.Omega.{arith}
use lib.IntN.{ℤ}
use borrow.Author.Tests.{le-leb, lt-leb}
use Rattle.refusals.specs.Questions.{first_no}
use Rattle.pace.specs.Updates.{cold_start_refusal}
use Rattle.algorithms.specs.Owd as owd
use Rattle.algorithms.specs.OwdTrend.{trend_answer}
use Rattle.algorithms.specs.declared.owd.OwdTrendDetector.{OwdTrendDetector}
use Rattle.samples.specs.Delay.{sample_refusal}
use Rattle.samples.specs.declared.delay.OwdBase.{OwdBase}
use Rattle.receiver.specs.State as receiver
use Rattle.sentences.specs.Checks.{clock}
use Rattle.sentences.specs.Capacity.{least, greatest, Clamped}

-- ---- a requested size
pub detector_clamped : (n : ℕ) → Clamped n (owd.new_of n).capacity
unfolding owd.new_of
detector_clamped n = record { below = λ l. omega arith; within = λ l g. omega arith; above = λ g. omega arith }

pub receiver_clamped : (n : ℕ) → Clamped n (receiver.with_window n).owd_trend.capacity
receiver_clamped n = detector_clamped n

pub cold_start_clamped : (n ms : ℕ) → clock ms ≡ true → Clamped n (receiver.new_of n ms).state.owd_trend.capacity
unfolding receiver.new_of cold_start_refusal first_no
cold_start_clamped n ms e = rw e (detector_clamped n)

-- ---- a window wider than the greatest: 1, which is asked before the buffers' lengths are looked at. Of a receiver it is said in history, over all its calls
module _ (w : OwdTrendDetector) (wide : greatest < w.capacity) where
  pub wide_lawless : owd.keeps_the_rule w ≡ false
  unfolding owd.keeps_the_rule
  wide_lawless = rw (le-leb least w.capacity (omega (arith, wide)), lt-leb w.capacity greatest wide) refl

  pub wide_push : (times : List ℕ) (delays : List ℤ) (us : ℤ) → owd.push_refusal w times delays us ≡ 1
  unfolding owd.push_refusal first_no
  wide_push times delays us = rw wide_lawless refl

  pub wide_trend : (times : List ℕ) (delays : List ℤ) → (trend_answer w times delays).refusal ≡ 1
  unfolding trend_answer first_no
  wide_trend times delays = rw wide_lawless refl

  pub wide_clear : (owd.clear_answer w).refusal ≡ 1
  unfolding owd.clear_answer first_no
  wide_clear = rw wide_lawless refl

  pub wide_sample : (r : Option OwdBase) (times : List ℕ) (delays : List ℤ) (timestamp now : ℕ) → sample_refusal w r times delays timestamp now ≡ 1
  unfolding sample_refusal first_no
  wide_sample r times delays timestamp now = rw wide_lawless refl
