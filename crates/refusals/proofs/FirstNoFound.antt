-- What the number of the first no says of every list of questions.
use mathlib.Core.Path.{◌≡◌, refl, sym, ap}
use mathlib.Core.Bool.{Bool, true, false, cond, true≢false, ◌&&◌, and-eq-true_iff}
use mathlib.Core.List.{List, [], ◌∷◌, ◌++◌}
use Prim.Native.Nat.{ℕ}
use lib.Dec.{ltb}
use Rattle.refusals.specs.Questions.{Question, question, first_no}

-- every answer is yes: a row of yeses
abbrev pub EachYes : List Question → Type 0
EachYes [] = Unit {0}
EachYes (q ∷ qs) = (q.answer ≡ true) × EachYes qs

-- no question has the number 0, which says that none refused
abbrev pub numbered : List Question → Bool
numbered [] = true
numbered (q ∷ qs) = ltb 0 q.number && numbered qs

-- what a refusal means: every answer is yes and it is 0; or it is the number of a question that is answered no, and those before it are answered yes
pub data Refusal : List Question → ℕ → Type 0 where
  accepted : {qs : List Question} → EachYes qs → Refusal qs 0
  refused : (before : List Question) (q : Question) (after : List Question) → EachYes before → q.answer ≡ false → Refusal (before ++ q ∷ after) q.number

one_more : (n : ℕ) (b : Bool) (qs : List Question) {k : ℕ} → Refusal qs k → Refusal (question n b ∷ qs) (cond b k n)
one_more n true qs (Refusal.accepted h) = let y : EachYes (question n true ∷ qs) = (refl, h) in Refusal.accepted y
one_more n true qs (Refusal.refused before q after h e) = Refusal.refused (question n true ∷ before) q after (refl, h) e
one_more n false qs h = Refusal.refused [] (question n false) qs tt refl

-- 0 where every answer is yes; else the number of a question that is answered no, after yeses alone
pub first_no_lem : (qs : List Question) → Refusal qs (first_no qs)
unfolding first_no
first_no_lem [] = Refusal.accepted tt
first_no_lem (q ∷ qs) = one_more q.number q.answer qs (first_no_lem qs)

asked_first : (n : ℕ) (b : Bool) (k : ℕ) → (ltb 0 n ≡ true) → cond b k n ≡ 0 → (b ≡ true) × (k ≡ 0)
asked_first n true k some h = (refl, h)
asked_first n false k some h = absurd (true≢false (sym (rw h at some)))

-- where no question has the number 0, 0 says that every answer is yes
pub each_yes : (qs : List Question) → numbered qs ≡ true → first_no qs ≡ 0 → EachYes qs
unfolding first_no
each_yes [] some h = tt
each_yes (q ∷ qs) some h =
    let numbers = (and-eq-true_iff (ltb 0 q.number) (numbered qs)).0 some in
    let answers = asked_first q.number q.answer (first_no qs) numbers.0 h in
    (answers.0, each_yes qs numbers.1 answers.1)

-- where every answer is yes, nothing refuses
pub none_refuses : (qs : List Question) → EachYes qs → first_no qs ≡ 0
unfolding first_no
none_refuses [] h = refl
none_refuses (q ∷ qs) h = rw h.0 (none_refuses qs h.1)

-- a question that is answered yes can be left out
pub yes_left_out : (before after : List Question) (n : ℕ) → first_no (before ++ question n true ∷ after) ≡ first_no (before ++ after)
unfolding first_no
yes_left_out [] after n = refl
yes_left_out (q ∷ before) after n = ap (λ (k : ℕ). cond q.answer k q.number) (yes_left_out before after n)
