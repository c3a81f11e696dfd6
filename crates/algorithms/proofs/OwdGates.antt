-- What the questions of a delay window's call show: where they gave 0 the state and both buffers are in order, and the answer is that of the call; else all is as given.
use Rattle.std.proofs.Common.{◌≡◌, ℕ, true, eqb, List, [], ◌∷◌, length, set, ℤ, refl, ne_eqb, eqb-true}
use mathlib.Core.Bool.{and-eq-true_iff}
use Rattle.refusals.specs.Answers.{Update}
use Rattle.refusals.specs.Questions.{question}
use Rattle.refusals.specs.Ranges.{delay_ok}
use Rattle.refusals.proofs.FirstNoFound.{EachYes, each_yes}
use Rattle.algorithms.specs.Owd.{keeps_the_rule, Lent, windows_ok, update, free, stored, push_refusal}
use Rattle.algorithms.specs.declared.owd.OwdTrendDetector.{OwdTrendDetector}
use Rattle.algorithms.proofs.OwdRuleKept.{rule}

-- ---- question 1, and question 4
pub in_order : (s : OwdTrendDetector) (ts : List ℕ) (ds : List ℤ) → keeps_the_rule s ≡ true → windows_ok s (length ts) (length ds) ≡ true → Lent s ts ds
in_order s ts ds k w =
    let b = (and-eq-true_iff (eqb (length ts) s.capacity) (eqb (length ds) s.capacity)).0 w in
    record { rule = rule s k; times_fit = eqb-true (length ts) s.capacity b.0; delays_fit = eqb-true (length ds) s.capacity b.1 }

pub push_in_order : (s : OwdTrendDetector) (ts : List ℕ) (ds : List ℤ) (us : ℤ) → push_refusal s ts ds us ≡ 0 → Lent s ts ds
unfolding push_refusal
push_in_order s ts ds us h =
    let qs = question 1 (keeps_the_rule s) ∷ question 4 (windows_ok s (length ts) (length ds)) ∷ question 5 (delay_ok us) ∷ [] in
    let y : EachYes qs = each_yes qs refl h in
    in_order s ts ds y.0 y.1.0

-- ---- the answer, and a buffer
module _ (gate refusal : ℕ) (given : refusal ≡ gate) where
  abbrev holds : OwdTrendDetector → Update OwdTrendDetector
  holds s = record { refusal = refusal; state = s }

  pub accepted : refusal ≡ 0 → (after s : OwdTrendDetector) → holds after ≡ update gate after s
  accepted z after s = rw (← given, z)

  pub refused : (refusal ≡ 0 → ⊥) → (after s : OwdTrendDetector) → holds s ≡ update gate after s
  refused z after s = rw (← given, ne_eqb refusal 0 z)

  pub stores : {A : Type 0} → refusal ≡ 0 → (s : OwdTrendDetector) (x : A) (xs : List A) → set xs (free s) x ≡ stored gate s x xs
  unfolding stored
  stores z s x xs = rw (← given, z)

  pub left_alone : {A : Type 0} → (refusal ≡ 0 → ⊥) → (s : OwdTrendDetector) (x : A) (xs : List A) → xs ≡ stored gate s x xs
  unfolding stored
  left_alone z s x xs = rw (← given, ne_eqb refusal 0 z)
