-- A function that makes a reader of its payload and calls a method on it, for every question that a method of `PassedOn`'s form answers: it has the answer from the payload's start, so it meets
-- each contract that says no more.
use Rattle.std.proofs.Common.{◌≡◌, ℕ, List, sym, ap, ◌∙◌, subst}
use Rattle.std.specs.Borrow.{Bor}
use Rattle.reader.specs.Held.{new_of}
use Rattle.reader.specs.declared.Reader.{Reader}
use Rattle.reader.proofs.PassedOn.{Question, found}
use Rattle.reader.proofs.PassedOn as Method

-- the contract of `new`
abbrev pub New : Bor (List ℕ) → Reader → Type 0
New s d = d ≡ new_of s

module _ (X : Question) where
  -- what a function on a payload is to meet
  abbrev pub Contract : Type 1
  Contract = Bor (List ℕ) → X.Answer → Type 0

  -- the answer from the start is what a contract says
  abbrev pub Shown : Contract → Type 0
  Shown C = (s : Bor (List ℕ)) → C s (X.answer s.now 0)

  -- such a function meets its contract, where `new` and the method that it calls meet theirs
  pub meets : (C : Contract) → Shown C → (s : Bor (List ℕ)) (d : Reader) (r : X.Answer) → New s d → Method.Says X d r → C s r
  meets C shown s d r made says = subst (λ (x : X.Answer). C s x) (sym (says ∙ ap (found X) made)) (shown s)
