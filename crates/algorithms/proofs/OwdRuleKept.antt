-- The rule of a delay window, clause by clause, and that every call leaves it kept.
use Rattle.std.proofs.Common.{◌≡◌, ℕ, ◌+◌, ◌-◌, ◌<◌, ◌≤◌, min, max, Bool, true, false, ◌&&◌, eqb, ltb, leb, List, [], ◌∷◌, ℤ, refl, arith, ltb-false, ltb-true, lt-ltb, le-leb, leb-true}
use mathlib.Core.Bool.{and-eq-true_iff}
use Rattle.limits.specs.Limits.{min_owd_window_size, max_owd_window_size}
use Rattle.refusals.specs.Questions.{question, first_no}
use Rattle.refusals.proofs.PickedByTest.{picked}
use Rattle.algorithms.specs.Owd.{capacity_ok, count_ok, first_ok, keeps_the_rule, Rule, empty, new_of, chosen, clear_answer, onward, free, grown, push_refusal, push_answer}
use Rattle.algorithms.specs.declared.owd.OwdTrendDetector.{OwdTrendDetector}

pub rule : (s : OwdTrendDetector) → keeps_the_rule s ≡ true → Rule s
unfolding keeps_the_rule
rule s h =
    let a = (and-eq-true_iff (capacity_ok s && count_ok s) (first_ok s)).0 h in
    let b = (and-eq-true_iff (capacity_ok s) (count_ok s)).0 a.0 in
    let d = (and-eq-true_iff (leb min_owd_window_size s.capacity) (leb s.capacity max_owd_window_size)).0 b.0 in
    record {
      least = leb-true min_owd_window_size s.capacity d.0;
      most = leb-true s.capacity max_owd_window_size d.1;
      count = leb-true s.count s.capacity b.1;
      first = ltb-true s.first s.capacity a.1;
    }

pub keeps : (s : OwdTrendDetector) → Rule s → keeps_the_rule s ≡ true
unfolding keeps_the_rule
keeps s r = rw (le-leb min_owd_window_size s.capacity r.least, le-leb s.capacity max_owd_window_size r.most, le-leb s.count s.capacity r.count, lt-ltb s.first s.capacity r.first)

-- ---- the states that the calls give
empty_rule : (n : ℕ) → min_owd_window_size ≤ n → n ≤ max_owd_window_size → Rule (empty n)
empty_rule n l m = record { least = l; most = m; count = omega arith; first = omega arith }

onward_below : (capacity slot n : ℕ) → slot < capacity → n ≤ capacity → onward capacity slot n < capacity
onward_below capacity slot n s h =
    picked (λ (k : ℕ). k < capacity) (ltb n (capacity - slot)) (λ e. let l = ltb-true n (capacity - slot) e in omega arith)
    (λ e. let l = ltb-false n (capacity - slot) e in omega arith)

pub free_below : (s : OwdTrendDetector) → Rule s → free s < s.capacity
unfolding free
free_below s r = onward_below s.capacity s.first s.count r.first r.count

pub grown_rule : (s : OwdTrendDetector) → Rule s → Rule (grown s)
unfolding grown
grown_rule s r = go (ltb s.count s.capacity) (ltb-true s.count s.capacity)
  where
    go : (b : Bool) → (b ≡ true → s.count < s.capacity)
        → Rule (chosen b (record { capacity = s.capacity; count = s.count + 1; first = s.first }) (record { capacity = s.capacity; count = s.count; first = onward s.capacity s.first 1 }))
    go true p = let l = p refl in record { least = r.least; most = r.most; count = omega arith; first = r.first }
    go false p = record { least = r.least; most = r.most; count = r.count; first = onward_below s.capacity s.first 1 r.first (omega (arith, r.least)) }

-- ---- the steps of a record that has asked
pub cleared_keeps_rule : (s : OwdTrendDetector) → keeps_the_rule s ≡ true → keeps_the_rule (empty s.capacity) ≡ true
cleared_keeps_rule s h = let r = rule s h in keeps (empty s.capacity) (empty_rule s.capacity r.least r.most)

pub grown_keeps_capacity : (s : OwdTrendDetector) → (grown s).capacity ≡ s.capacity
unfolding grown
grown_keeps_capacity s = go (ltb s.count s.capacity)
  where
    go : (b : Bool)
        → (chosen b (record { capacity = s.capacity; count = s.count + 1; first = s.first }) (record { capacity = s.capacity; count = s.count; first = onward s.capacity s.first 1 })).capacity ≡ s.capacity
    go true = refl
    go false = refl

pub grown_keeps_rule : (s : OwdTrendDetector) → keeps_the_rule s ≡ true → keeps_the_rule (grown s) ≡ true
grown_keeps_rule s h = keeps (grown s) (grown_rule s (rule s h))

-- ---- the calls
pub new_keeps_rule : (n : ℕ) → keeps_the_rule (new_of n) ≡ true
unfolding new_of
new_keeps_rule n = keeps _ (empty_rule (max min_owd_window_size (min n max_owd_window_size)) (omega arith) (omega arith))

chosen_keeps_rule : (b : Bool) (after given : OwdTrendDetector) → keeps_the_rule after ≡ true → keeps_the_rule given ≡ true → keeps_the_rule (chosen b after given) ≡ true
chosen_keeps_rule true after given p q = p
chosen_keeps_rule false after given p q = q

pub clear_keeps_rule : (s : OwdTrendDetector) → keeps_the_rule s ≡ true → keeps_the_rule (clear_answer s).state ≡ true
unfolding clear_answer
clear_keeps_rule s h = chosen_keeps_rule (eqb (first_no (question 1 (keeps_the_rule s) ∷ [])) 0) (empty s.capacity) s (cleared_keeps_rule s h) h

pub push_keeps_rule : (s : OwdTrendDetector) (times : List ℕ) (delays : List ℤ) (us : ℤ) → keeps_the_rule s ≡ true → keeps_the_rule (push_answer s times delays us).state ≡ true
unfolding push_answer
push_keeps_rule s times delays us h = chosen_keeps_rule (eqb (push_refusal s times delays us) 0) (grown s) s (grown_keeps_rule s h) h
