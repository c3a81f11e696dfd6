-- What a reader holds after a move: its payload is the one it was given, and its position is the place that it was moved to.
use Rattle.std.proofs.Common.{◌≡◌, refl}
use Rattle.codec.specs.declared.Place.{Place}
use Rattle.reader.specs.Held.{place_of, moved_to}
use Rattle.reader.specs.declared.Reader.{Reader}

pub keeps : (h : Reader) (p : Place) → (moved_to h p).buf ≡ h.buf
keeps h p = refl

pub moves : (h : Reader) (p : Place) → place_of (moved_to h p) ≡ p
moves h p = refl

-- a reader that is moved again stands where the second move ends
pub moves_on : (h : Reader) (p q : Place) → moved_to (moved_to h p) q ≡ moved_to h q
moves_on h p q = refl

-- and one that is moved to its own place stays
pub stays : (h : Reader) → moved_to h (place_of h) ≡ h
stays h = refl
