-- Each call that asks its questions ends within a tracker's rule.
use mathlib.Core.Path.{◌≡◌, refl}
use mathlib.Core.Bool.{true}
use mathlib.Core.List.{[], ◌∷◌}
use Prim.Native.Nat.{ℕ}
use Rattle.refusals.specs.Questions.{question}
use Rattle.refusals.proofs.FirstNoFound.{each_yes}
use Rattle.gaps.specs.Gaps.{keeps_the_rule, bursts_ok}
use Rattle.gaps.specs.Checked.{refusal_of, observe_refusal, observe_of, finish_of, take_of}
use Rattle.gaps.specs.declared.GapTracker.{GapTracker}
use Rattle.gaps.proofs.RuleKept.{Fits, observed_keeps_rule, burst_finished_keeps_rule, stats_keep_rule}

-- that a burst's length is 16 bits is its type's
module _ (t : GapTracker) (f : Fits t) where
  pub observe_keeps_rule : (counter : ℕ) → (observe_of t counter).refusal ≡ 0 → keeps_the_rule (observe_of t counter).tracker ≡ true
  unfolding observe_of observe_refusal
  observe_keeps_rule counter h =
      let y = each_yes (question 1 (keeps_the_rule t) ∷ question 10 (bursts_ok t counter) ∷ []) refl h in
      rw h (observed_keeps_rule t counter y.0 f y.1.0)

  lawful : refusal_of t ≡ 0 → keeps_the_rule t ≡ true
  unfolding refusal_of
  lawful h = (each_yes (question 1 (keeps_the_rule t) ∷ []) refl h).0

  pub finish_keeps_rule : (finish_of t).refusal ≡ 0 → keeps_the_rule (finish_of t).tracker ≡ true
  unfolding finish_of
  finish_keeps_rule h = rw h (burst_finished_keeps_rule t (lawful h) f)

  pub take_keeps_rule : (take_of t).refusal ≡ 0 → keeps_the_rule (take_of t).tracker ≡ true
  unfolding take_of
  take_keeps_rule h = rw h (stats_keep_rule t (lawful h) f)
