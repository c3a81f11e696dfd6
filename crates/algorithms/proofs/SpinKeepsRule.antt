-- The last edge's time stays within its rule.
use Rattle.std.proofs.Common.{◌≡◌, ℕ, Bool, true, false, cond, eqb, ltb, [], ◌∷◌, sym, refl, ◌∙◌, eqb-true}
use mathlib.Core.Bool.{beq}
use Rattle.refusals.specs.Questions.{question}
use Rattle.refusals.specs.Ranges.{clock_ok}
use Rattle.refusals.proofs.FirstNoFound.{each_yes}
use Rattle.algorithms.specs.Spin.{keeps_the_rule, fresh, unmoved, edge, taken, reflected, copied, observed, observe_refusal, restart_of, rx_observe_of, SpinObserved}
use Rattle.algorithms.specs.declared.spin.SpinBitState.{SpinBitState}

-- nothing refused: the rule is kept, and the clock is in range
pub observe_asked : (s : SpinBitState) (now : ℕ) → observe_refusal s now ≡ 0 → (keeps_the_rule s ≡ true) × (clock_ok now ≡ true)
unfolding observe_refusal
observe_asked s now h = let y = each_yes (question 1 (keeps_the_rule s) ∷ question 2 (clock_ok now) ∷ []) refl h in (y.0, y.1.0)

pub fresh_keeps_rule : (role : Bool) → keeps_the_rule (fresh role) ≡ true
unfolding keeps_the_rule
fresh_keeps_rule role = refl

-- an accepted restart ends within the rule
pub restart_keeps_rule : (s : SpinBitState) → (restart_of s).refusal ≡ 0 → keeps_the_rule (restart_of s).state ≡ true
unfolding restart_of
restart_keeps_rule s h = rw h (fresh_keeps_rule s.is_initiator)

-- ---- a frame, by the role and by its bit or counter
module _ (P : SpinObserved → Type 0) (s : SpinBitState) (bit : Bool) (counter now : ℕ) where
  by_cases : P (unmoved 0 s) → P (edge s now) → P (taken s bit counter) → P (observed s bit counter now)
  unfolding observed reflected copied
  by_cases still e t = go s.is_initiator (beq bit s.current_value) (ltb s.highest_counter_for_spin counter)
    where
      go : (role back later : Bool) → P (cond role (cond back (edge s now) (unmoved 0 s)) (cond later (taken s bit counter) (unmoved 0 s)))
      go true true later = e
      go true false later = still
      go false back true = t
      go false back false = still

pub observed_keeps_rule : (s : SpinBitState) (bit : Bool) (counter now : ℕ) → keeps_the_rule s ≡ true → clock_ok now ≡ true → keeps_the_rule (observed s bit counter now).state ≡ true
unfolding keeps_the_rule
observed_keeps_rule s bit counter now h k = by_cases (λ o. keeps_the_rule o.state ≡ true) s bit counter now h k h

answered : (accepted : Bool) (n : ℕ) (s : SpinBitState) (o : SpinObserved) → (accepted ≡ true → n ≡ 0) → o.refusal ≡ 0 → (cond accepted o (unmoved n s)).refusal ≡ n
answered true n s o f e = e ∙ sym (f refl)
answered false n s o f e = refl

pub observe_refusal_lem : (s : SpinBitState) (bit : Bool) (counter now : ℕ) → (rx_observe_of s bit counter now).refusal ≡ observe_refusal s now
unfolding rx_observe_of
observe_refusal_lem s bit counter now =
    let n = observe_refusal s now in
    answered (eqb n 0) n s (observed s bit counter now) (eqb-true n 0) (by_cases (λ o. o.refusal ≡ 0) s bit counter now refl refl refl)

-- an accepted frame ends within the rule
pub observe_keeps_rule : (s : SpinBitState) (bit : Bool) (counter now : ℕ) → (rx_observe_of s bit counter now).refusal ≡ 0 → keeps_the_rule (rx_observe_of s bit counter now).state ≡ true
unfolding rx_observe_of
observe_keeps_rule s bit counter now e =
    let h = sym (observe_refusal_lem s bit counter now) ∙ e in
    let y = observe_asked s now h in
    rw h (observed_keeps_rule s bit counter now y.0 y.1)
