-- Where a frame stands: document 02, W-203, "The gap tracker's answer becomes one of four: first, in sequence, a gap of n, or behind by n, where n is expected minus counter".
-- Definitions only.
use Rattle.std.specs.Prelude.{◌≡◌, ℕ, ◌+◌, ◌-◌, ◌≤◌, ◌^◌, min, List, ◌∷◌, None, Option, Some}
use Rattle.gaps.specs.declared.Arrival.{Arrival}
use Rattle.gaps.specs.declared.Arrival.TheVariants.{First, InSequence, Gap, Behind}
use Rattle.sentences.specs.Bursts.{greatest}

-- one exactly where the other
abbrev pub Exactly : Type 0 → Type 0 → Type 0
Exactly A B = (A → B) × (B → A)

-- the counter is n past the expected one, or n below it: a frame came before, and n is at least 1
pub record Past (due : Option ℕ) (counter n : ℕ) : Type 0 where
  pub expected : ℕ
  pub came : due ≡ Some expected
  pub apart : counter ≡ expected + n
  pub some : 1 ≤ n

pub record Below (due : Option ℕ) (counter n : ℕ) : Type 0 where
  pub expected : ℕ
  pub came : due ≡ Some expected
  pub apart : expected ≡ counter + n
  pub some : 1 ≤ n

-- what is answered of a frame of this counter, where this one was expected, or none before the first frame
pub record Stands (due : Option ℕ) (counter : ℕ) (answer : Arrival) : Type 0 where
  pub first : Exactly (answer ≡ First) (due ≡ None)
  pub in_sequence : Exactly (answer ≡ InSequence) (due ≡ Some counter)
  pub gap : (n : ℕ) → Exactly (answer ≡ Gap n) (Past due counter n)
  pub behind : (n : ℕ) → Exactly (answer ≡ Behind n) (Below due counter n)

-- "the commit's number from `observe` is n for a gap and 0 for the other three"
pub record Lost (answer : Arrival) (lost : ℕ) : Type 0 where
  pub gap : (n : ℕ) → answer ≡ Gap n → lost ≡ n
  pub first : answer ≡ First → lost ≡ 0
  pub in_sequence : answer ≡ InSequence → lost ≡ 0
  pub behind : (n : ℕ) → answer ≡ Behind n → lost ≡ 0

-- the counter expected after a frame of this counter and of these: one above the greatest, saturating at 64 bits
abbrev pub due_after : ℕ → List ℕ → ℕ
due_after counter counters = min (greatest (counter ∷ counters) + 1) (2 ^ 64 - 1)
