-- The questions of a sample: question 5 can be left out, and a sample that nothing refuses ends within the rule.
use Rattle.std.specs.Prelude.{Option}
use mathlib.Core.Path.{◌≡◌, refl}
use mathlib.Core.Bool.{true, ◌&&◌, and-eq-true_iff}
use mathlib.Core.List.{List, [], ◌∷◌}
use Prim.Native.Nat.{ℕ}
use lib.IntN.{ℤ}
use lib.ListN.{length}
use Rattle.refusals.specs.Questions.{question, first_no}
use Rattle.refusals.specs.Ranges.{clock_ok, delay_ok}
use Rattle.refusals.proofs.FirstNoFound.{each_yes}
use Rattle.algorithms.specs.Owd.{keeps_the_rule, windows_ok}
use Rattle.algorithms.specs.declared.owd.OwdTrendDetector.{OwdTrendDetector}
use Rattle.samples.specs.Delay.{reference_ok, delay_of, sample_refusal, sample_of}
use Rattle.samples.specs.declared.delay.OwdBase.{OwdBase}
use Rattle.samples.proofs.DelayInRange.{delay_in_range}
use Rattle.samples.proofs.SampleKeepsRule.{pushed_keeps_rule, base_keeps_rule}

module _ (w : OwdTrendDetector) (r : Option OwdBase) (times : List ℕ) (delays : List ℤ) (timestamp now : ℕ) where
  -- the sample is in range, so that question 5 leaves the number of the first no as it is
  pub sample_question_left_out : first_no (question 1 (keeps_the_rule w && reference_ok r) ∷ question 2 (clock_ok now) ∷ question 4 (windows_ok w (length times) (length delays)) ∷ []) ≡ sample_refusal w r times delays timestamp now
  unfolding sample_refusal first_no
  sample_question_left_out = rw (delay_in_range r timestamp now)

  pub sample_keeps_rule : (sample_of w r times delays timestamp now).refusal ≡ 0
      → (keeps_the_rule (sample_of w r times delays timestamp now).owd_trend ≡ true) × (reference_ok (sample_of w r times delays timestamp now).owd_ref ≡ true)
  unfolding sample_of sample_refusal
  sample_keeps_rule h =
      let y = each_yes (question 1 (keeps_the_rule w && reference_ok r) ∷ question 2 (clock_ok now) ∷ question 4 (windows_ok w (length times) (length delays)) ∷ question 5 (delay_ok (delay_of r timestamp now)) ∷ []) refl h in
      let k = (and-eq-true_iff (keeps_the_rule w) (reference_ok r)).0 y.0 in
      rw h (pushed_keeps_rule w r now k.0, base_keeps_rule r now timestamp k.1 y.1.0)
