-- What `Writer`'s methods answer (codec.rs; document 01, question 6), over the bytes of the lent buffer and the place. Definitions only.
use Rattle.std.specs.Prelude.{ℕ, cond, List, length, leb}
use Rattle.codec.specs.Reading.{within, place_after}
use Rattle.codec.specs.declared.Place.{Place}

-- the first byte's place
abbrev pub start : Place
start = record { pos = 0 }

-- a refusal's number, 0 for none, and the place after
pub record Written : Type 0 where
  pub refusal : ℕ
  pub place : Place

-- 0 where the buffer has room for n bytes, else 6; the writer begins at the start
unfoldable pub room_for : List ℕ → ℕ → Written
room_for b n = record { refusal = cond (leb n (length b)) 0 6; place = start }

-- a write of n bytes: 0 and the place after them, or 6 and the same place
unfoldable pub written : List ℕ → Place → ℕ → Written
written b at n = record { refusal = cond (within b at.pos n) 0 6; place = place_after b at n }
