-- A method on a reader by value that passes its payload and its position on, for every answer and every function on a slice and a position: a method that answers what the function does meets
-- each contract that says no more.
use Rattle.std.proofs.Common.{◌≡◌, ℕ, List, sym, subst}
use Rattle.reader.specs.declared.Reader.{Reader}

-- a question to a payload from a position on: the type of its answer, and its definition
pub record Question : Type 1 where
  pub Answer : Type 0
  pub answer : List ℕ → ℕ → Answer

module _ (X : Question) where
  -- the answer from where a reader stands
  abbrev pub found : Reader → X.Answer
  found d = X.answer d.buf.now d.at.pos

  -- what a method on a reader is to meet
  abbrev pub Contract : Type 1
  Contract = Reader → X.Answer → Type 0

  -- the answer is what a contract says
  abbrev pub Shown : Contract → Type 0
  Shown C = (d : Reader) → C d (found d)

  -- what the method's own contract says
  abbrev pub Says : Contract
  Says d r = r ≡ found d

  -- such a method meets its contract
  pub meets : (C : Contract) → Shown C → (d : Reader) (r : X.Answer) → Says d r → C d r
  meets C shown d r says = subst (λ (x : X.Answer). C d x) (sym says) (shown d)
