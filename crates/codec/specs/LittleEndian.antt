-- Little-endian fields (document 01, "Report bytes"): the number that n bytes from a position on make up, and a list with the bytes of a number in the
-- place of its own. Definitions only.
use Rattle.std.specs.Prelude.{ℕ, zero, suc, ◌+◌, ◌-◌, ◌*◌, ◌/◌, ◌%◌, cond, List, [], ◌∷◌, ◌++◌, length, get_or, take, drop, leb, Option, None, Some}

-- the least significant byte stands first
unfoldable pub le_at : List ℕ → ℕ → ℕ → ℕ
le_at s at zero = 0
le_at s at (suc n) = get_or s at 0 + 256 * le_at s (at + 1) n

-- the n low bytes of a number, the least first
unfoldable pub le_bytes : ℕ → ℕ → List ℕ
le_bytes zero x = []
le_bytes (suc n) x = (x % 256) ∷ le_bytes n (x / 256)

-- a field of n bytes, 0 where it does not lie in the list whole
unfoldable pub field_at : List ℕ → ℕ → ℕ → ℕ
field_at s at n = cond (leb n (length s - at)) (le_at s at n) 0

-- the n bytes from a position on, or none where they do not lie in the list whole
unfoldable pub bytes_at : List ℕ → ℕ → ℕ → Option (List ℕ)
bytes_at s at n = cond (leb (at + n) (length s)) (Some (take n (drop at s))) None

-- other bytes in the place of a list's own, from a position on, or nothing where they do not fit
unfoldable pub stored : List ℕ → ℕ → List ℕ → List ℕ
stored b at v = cond (leb (length v) (length b - at)) (take at b ++ v ++ drop (at + length v) b) b

-- a field of n bytes stored, or nothing where it does not fit
unfoldable pub with_field : List ℕ → ℕ → ℕ → ℕ → List ℕ
with_field b at n x = stored b at (le_bytes n x)
