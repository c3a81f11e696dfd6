-- Which number a call's refusal is, from the questions in their order: the rule, then those that its own arguments answer, then those that the record answers.
use mathlib.Core.Path.{◌≡◌, refl}
use mathlib.Core.Logic.{◌≢◌}
use mathlib.Core.Bool.{Bool, true, false, cond, not, ◌&&◌, ◌||◌}
use mathlib.Core.List.{List, [], ◌∷◌, ◌++◌}
use Prim.Native.Nat.{ℕ}
use native.Mathlib.Omega.{arith}
use lib.Dec.{eqb}
use borrow.Author.Tests.{eqb-false, eq-eqb}
use Rattle.refusals.proofs.Clauses.{left, right}
use Rattle.refusals.specs.Questions.{Question, question, first_no}
use Rattle.history.specs.Asked.{Asked, among, Put, put, Judged}

-- ---- not by 1
-- a question with the number 1 is answered yes
abbrev pub one_yes : List Question → Bool
one_yes [] = true
one_yes (q ∷ qs) = (not (eqb q.number 1) || q.answer) && one_yes qs

not_one : (qs : List Question) → one_yes qs ≡ true → eqb (first_no qs) 1 ≡ false
unfolding first_no
not_one [] h = refl
not_one (q ∷ qs) h = go q.answer q.number (left (not (eqb q.number 1) || q.answer) (one_yes qs) h) (not_one qs (right (not (eqb q.number 1) || q.answer) (one_yes qs) h))
  where
    none : (b : Bool) → (not b || false) ≡ true → b ≡ false
    none true e = let z : ◌≡◌ {A = ℕ} 0 1 = cc in absurd (omega arith)
    none false e = refl

    go : (a : Bool) (n : ℕ) → (not (eqb n 1) || a) ≡ true → eqb (first_no qs) 1 ≡ false → eqb (cond a (first_no qs) n) 1 ≡ false
    go true n e k = k
    go false n e k = none (eqb n 1) e

-- ---- by the call's own arguments, or by the record
abbrev pub questions : List Asked → List Question
questions [] = []
questions (q ∷ qs) = question q.number q.answer ∷ questions qs

abbrev pub numbers : List Question → List ℕ
numbers [] = []
numbers (q ∷ qs) = q.number ∷ numbers qs

-- where nothing refuses, 0; else one of the numbers asked
pub data Among : List ℕ → ℕ → Type 0 where
  none : {ns : List ℕ} → Among ns 0
  some : {ns : List ℕ} (n : ℕ) → among n ns ≡ true → Among ns n

one_of : (qs : List Question) → Among (numbers qs) (first_no qs)
unfolding first_no
one_of [] = Among.none
one_of (q ∷ qs) = go q.answer q.number (one_of qs)
  where
    or_right : (b : Bool) → (b || true) ≡ true
    or_right true = refl
    or_right false = refl

    go : (a : Bool) (m : ℕ) {k : ℕ} → Among (numbers qs) k → Among (m ∷ numbers qs) (cond a k m)
    go true m Among.none = Among.none
    go true m (Among.some n e) = let later : (eqb n m || among n (numbers qs)) ≡ true = rw e (or_right (eqb n m)) in Among.some n later
    go false m k = let here : (eqb m m || among m (numbers qs)) ≡ true = rw (eq-eqb m m refl) in Among.some m here

own_first : (own : List Asked) (late : List Question) → Judged (put own (numbers late)) (first_no (questions own ++ late))
unfolding first_no
own_first [] late = go (one_of late)
  where
    go : {k : ℕ} → Among (numbers late) k → Judged (put [] (numbers late)) k
    go Among.none = Judged.by_arguments
    go (Among.some n e) = Judged.by_record n refl e
own_first (q ∷ own) late = go q.answer q.number (own_first own late)
  where
    go : (b : Bool) (m : ℕ) {k : ℕ} → Judged (put own (numbers late)) k → Judged (put (record { number = m; answer = b } ∷ own) (numbers late)) (cond b k m)
    go true m Judged.by_arguments = Judged.by_arguments
    go true m (Judged.by_record n z e) = Judged.by_record n z e
    go false m k = Judged.by_arguments

-- a refusal where the rule is kept
pub record Lawful (p : Put) (n : ℕ) : Type 0 where
  pub not_by_rule : n ≢ 1
  pub as_asked : Judged p n

pub behind_rule : (own : List Asked) (late : List Question) → one_yes (questions own ++ late) ≡ true → Lawful (put own (numbers late)) (first_no (questions own ++ late))
behind_rule own late h = record { not_by_rule = eqb-false (first_no (questions own ++ late)) 1 (not_one (questions own ++ late) h); as_asked = own_first own late }

pub never_refused : Lawful (put [] []) 0
unfolding first_no
never_refused = behind_rule [] [] refl
