-- A reader is made at a position of a payload and lent to one of its reads, for every read: a function that does so answers what the read finds there and the place after it, so it meets
-- each contract that says no more. What the method that it calls promises need only say what the method answers and where it leaves the reader.
use Rattle.std.proofs.Common.{◌≡◌, ℕ, List, sym, ap₂, subst}
use Rattle.std.specs.Borrow.{Bor}
use Rattle.codec.specs.declared.Place.{Place}
use Rattle.reader.specs.Held.{place_at, place_of}
use Rattle.reader.specs.declared.Reader.{Reader}
use Rattle.reader.proofs.LentRead.{Read, whole}
use Rattle.reader.proofs.LentRead as Method

-- the reader that is made
abbrev pub made : Bor (List ℕ) → ℕ → Reader
made s p = record { buf = s; at = place_at p }

module _ (X : Read) where
  -- what a function on a payload and a position is to meet
  abbrev pub Contract : Type 1
  Contract = Bor (List ℕ) → ℕ → X.Answer × Place → Type 0

  -- what the read finds at the position, with the place after it, is what a contract says
  abbrev pub Shown : Contract → Type 0
  Shown C = (s : Bor (List ℕ)) (p : ℕ) → C s p (X.read s.now (place_at p), X.after s.now (place_at p))

  -- the contract of the method says what it answers, and where the reader stands then
  abbrev pub Told : Method.Contract X → Type 0
  Told E = (h : Reader) (r : X.Answer) (n : Reader) → E h r n → ◌≡◌ {A = X.Answer × Place} (r, place_of n) (whole X h)

  -- such a function meets its contract, where the method that it calls meets its own
  pub meets :
      (C : Contract) → Shown C → (E : Method.Contract X) → Told E →
      (s : Bor (List ℕ)) (p : ℕ) (r : X.Answer) (n : Reader) → E (made s p) r n → C s p (r, place_of n)
  meets C shown E told s p r n known = subst (λ (x : X.Answer × Place). C s p x) (sym (told (made s p) r n known)) (shown s p)

  -- and what each method's own contract says tells it
  pub says_told : Told (Method.Says X)
  says_told h r n says = ap₂ (λ (x : X.Answer) (m : Reader). (x, place_of m)) says.0 says.1
