-- A result read as a step is the step that its definition says.
use mathlib.Core.Path.{◌≡◌, refl, sym}
use mathlib.Core.Bool.{Bool, true, false, cond}
use Prim.Native.Nat.{ℕ}
use lib.Dec.{leb, eqb}
use borrow.Author.Tests.{eqb-true}
use Rattle.std.specs.Prelude.{Ok, Err}
use Rattle.refusals.specs.Answers as answers
use Rattle.refusals.specs.Answers.{numbered, answered, answer, told, settled, settled_with}
use Rattle.refusals.proofs.ResultsSayAll.{number_numbered, refusal_kept, value_kept}
use Rattle.history.specs.Answers.{Fact, Answer}
use Rattle.history.specs.Tellings.{telling}
use Rattle.history.specs.ResultsRead.{asked, moved, moved_with, handed}

pub asked_true : {A : Type 0} (fact : A → Fact) (nothing : A) (n : ℕ) (x : A) → leb n 11 ≡ true → asked fact nothing (told (answer nothing n x)) ≡ telling fact (answer nothing n x)
unfolding answer
asked_true fact nothing n x h = λ i. record { refusal = refusal_kept n (answer nothing n x).value h i; fact = fact (value_kept nothing n x i) }

pub moved_true : {S : Type 0} (u : answers.Update S) → leb u.refusal 11 ≡ true → moved (settled u) ≡ record { refusal = u.refusal; answer = Answer.nothing; state = u.state }
unfolding settled
moved_true {S} u h = go (eqb u.refusal 0) refl
  where
    go : (b : Bool) → eqb u.refusal 0 ≡ b → moved (cond b (Ok u.state) (Err (record { refusal = numbered u.refusal; state = u.state }))) ≡ record { refusal = u.refusal; answer = Answer.nothing; state = u.state }
    go true e = λ i. record { refusal = sym (eqb-true u.refusal 0 e) i; answer = Answer.nothing; state = u.state }
    go false e = λ i. record { refusal = number_numbered u.refusal h e i; answer = Answer.nothing; state = u.state }

pub moved_with_true : {S A : Type 0} (say : A → Answer) (nothing : A) (n : ℕ) (s : S) (x : A) → leb n 11 ≡ true → (eqb n 0 ≡ false → x ≡ nothing) → moved_with say nothing (settled_with n s x) ≡ record { refusal = n; answer = say x; state = s }
unfolding settled_with
moved_with_true {S} say nothing n s x h none = go (eqb n 0) refl
  where
    go : (b : Bool) → eqb n 0 ≡ b → moved_with say nothing (cond b (Ok (s, x)) (Err (record { refusal = numbered n; state = s }))) ≡ record { refusal = n; answer = say x; state = s }
    go true e = λ i. record { refusal = sym (eqb-true n 0 e) i; answer = say x; state = s }
    go false e = λ i. record { refusal = number_numbered n h e i; answer = say (sym (none e) i); state = s }

pub handed_true : {S : Type 0} (u : answers.Update S) → handed (settled u) ≡ u.state
unfolding settled
handed_true u = go (eqb u.refusal 0)
  where
    go : (b : Bool) → handed (cond b (Ok u.state) (Err (record { refusal = numbered u.refusal; state = u.state }))) ≡ u.state
    go true = refl
    go false = refl
