-- What every message shares: it is written whole or not at all (document 01, question 6), and which bytes of two payloads are the same. Definitions only.
use Rattle.std.specs.Prelude.{ℕ, ◌≤◌, ◌<◌, ◌≡◌, cond, List, ◌++◌, length, get_or, drop, leb, eqb, Result, Ok, Err}
use Rattle.codec.specs.declared.reader.TooShort.{TooShort}

-- 0 where the buffer has room for n bytes, else 6
unfoldable pub room_answer : ℕ → List ℕ → ℕ
room_answer n out = cond (leb n (length out)) 0 6

-- the message in the place of the buffer's first bytes, the rest as it was; nothing where the buffer is too short
unfoldable pub written_into : List ℕ → List ℕ → List ℕ
written_into out message = cond (leb (length message) (length out)) (message ++ drop (length message) out) out

-- a decoder's result: the message where its number is 0, else the two lengths
unfoldable pub message_taken : {A : Type 0} → ℕ → ℕ → ℕ → A → Result A TooShort
message_taken refusal needed given x = cond (eqb refusal 0) (Ok x) (Err (record { needed = needed; given = given }))

-- two payloads have the same bytes from one position up to another
abbrev pub AlikeOn : List ℕ → List ℕ → ℕ → ℕ → Type 0
AlikeOn s t from to = (i : ℕ) → from ≤ i → i < to → get_or s i 0 ≡ get_or t i 0

-- every element is a byte
abbrev pub Bytes : List ℕ → Type 0
Bytes s = (i : ℕ) → get_or s i 0 < 256
