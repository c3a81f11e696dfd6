-- A read of a reader that is lent by `&mut`, for every answer and every function on a slice and a place: a method that answers what the function does and moves the reader as it moves the place
-- meets each contract that says no more. The contract of each method in src/lib.rt says just that of its read.
use Rattle.std.proofs.Common.{◌≡◌, ℕ, List, sym, subst}
use Rattle.codec.specs.declared.Place.{Place}
use Rattle.reader.specs.Held.{place_of, moved_to}
use Rattle.reader.specs.declared.Reader.{Reader}

-- a read: the type of its answer, and its definition and the place after over the payload and the place
pub record Read : Type 1 where
  pub Answer : Type 0
  pub after : List ℕ → Place → Place
  pub read : List ℕ → Place → Answer

module _ (X : Read) where
  -- what the read finds from where a reader stands, and the reader then
  abbrev pub found : Reader → X.Answer
  found h = X.read h.buf.now (place_of h)

  abbrev pub left : Reader → Reader
  left h = moved_to h (X.after h.buf.now (place_of h))

  -- and both: the answer, and the place where the reader stands then
  abbrev pub whole : Reader → X.Answer × Place
  whole h = (found h, X.after h.buf.now (place_of h))

  -- what a method on a lent reader is to meet: a fact of the reader before, the answer and the reader after
  abbrev pub Contract : Type 1
  Contract = Reader → X.Answer → Reader → Type 0

  -- what the method does is what a contract says
  abbrev pub Shown : Contract → Type 0
  Shown C = (h : Reader) → C h (found h) (left h)

  -- what the method's own contract says
  abbrev pub Says : Contract
  Says h r n = (r ≡ found h) × (n ≡ left h)

  -- such a method meets its contract
  pub meets : (C : Contract) → Shown C → (h : Reader) (r : X.Answer) (n : Reader) → Says h r n → C h r n
  meets C shown h r n says =
      subst (λ (m : Reader). C h r m) (sym says.1) (subst (λ (x : X.Answer). C h x (left h)) (sym says.0) (shown h))
