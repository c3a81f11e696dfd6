-- A reader that holds its payload (codec.rs, `Reader`): a new one, a position as a place, and the reader at another place. Definitions only.
use Rattle.std.specs.Prelude.{ℕ, List}
use Rattle.std.specs.Borrow.{Bor}
use Rattle.codec.specs.declared.Place.{Place}
use Rattle.reader.specs.declared.Reader.{Reader}

-- a position, as the functions on a slice and a place take it
abbrev pub place_at : ℕ → Place
place_at pos = record { pos = pos }

-- the payload, from its start on
abbrev pub new_of : Bor (List ℕ) → Reader
new_of payload = record { buf = payload; at = place_at 0 }

-- a reader's own place
abbrev pub place_of : Reader → Place
place_of r = r.at

-- the payload stays
abbrev pub moved_to : Reader → Place → Reader
moved_to r at = record { buf = r.buf; at = at }
