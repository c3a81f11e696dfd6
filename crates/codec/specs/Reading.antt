-- What `Reader`'s methods answer (codec.rs; document 01, question 7), over the bytes of the payload and the place. Definitions only.
use Rattle.std.specs.Prelude.{ℕ, ◌+◌, ◌-◌, ◌^◌, ◌++◌, min, Bool, cond, List, length, take, drop, leb, codes, decimal, Result, Ok, Err}
use Rattle.codec.specs.LittleEndian.{field_at}
use Rattle.codec.specs.declared.Place.{Place}
use Rattle.codec.specs.declared.reader.TooShort.{TooShort}
use Rattle.codec.specs.declared.reader.Span.{Span}

-- whether n bytes from a position on lie in the payload
abbrev pub within : List ℕ → ℕ → ℕ → Bool
within s pos n = leb (pos + n) (length s)

-- place + n, or the greatest usize where the sum would wrap
unfoldable pub needed_for : ℕ → ℕ → ℕ
needed_for pos n = min (pos + n) (2 ^ 64 - 1)

-- `MessageTooShort` with the two lengths
abbrev pub too_short : List ℕ → ℕ → ℕ → TooShort
too_short s pos n = record { needed = needed_for pos n; given = length s }

-- its text, as `Display` writes it
abbrev pub short_text : TooShort → List ℕ
short_text short = codes "the payload is too short: " ++ (decimal short.needed ++ (codes " bytes needed, " ++ (decimal short.given ++ codes " given")))

-- enough, or too short
abbrev pub Length : Type 0
Length = Result (Unit {0}) TooShort

unfoldable pub length_answer : List ℕ → ℕ → ℕ → Length
length_answer s pos n = cond (within s pos n) (Ok tt) (Err (too_short s pos n))

-- document 01's number, and the two lengths that 7 returns beside it
pub record LengthValues : Type 0 where
  pub refusal : ℕ
  pub needed : ℕ
  pub given : ℕ

-- the number and the values of each length answer
unfoldable pub values_of : Length → LengthValues
values_of (Ok enough) = record { refusal = 0; needed = 0; given = 0 }
values_of (Err short) = record { refusal = 7; needed = short.needed; given = short.given }

-- one thing where the payload is long enough, another where it is too short
unfoldable pub by_length : {A : Type 0} → Length → A → A → A
by_length (Ok enough) there lacking = there
by_length (Err short) there lacking = lacking

-- a read's result: the value where the payload is long enough, else the two lengths
unfoldable pub read_as : {A : Type 0} → Length → A → Result A TooShort
read_as (Ok enough) x = Ok x
read_as (Err short) x = Err short

-- the place after n bytes, or the same place where they are not all there
unfoldable pub place_after : List ℕ → Place → ℕ → Place
place_after s at n = record { pos = cond (within s at.pos n) (at.pos + n) at.pos }

-- ---- a field of each width
unfoldable pub read_u8 : List ℕ → Place → Result ℕ TooShort
read_u8 s at = read_as (length_answer s at.pos 1) (field_at s at.pos 1)

unfoldable pub read_u16 : List ℕ → Place → Result ℕ TooShort
read_u16 s at = read_as (length_answer s at.pos 2) (field_at s at.pos 2)

unfoldable pub read_u32 : List ℕ → Place → Result ℕ TooShort
read_u32 s at = read_as (length_answer s at.pos 4) (field_at s at.pos 4)

unfoldable pub read_u64 : List ℕ → Place → Result ℕ TooShort
read_u64 s at = read_as (length_answer s at.pos 8) (field_at s at.pos 8)

-- where n bytes stand: from the place on
unfoldable pub read_bytes : List ℕ → Place → ℕ → Result Span TooShort
read_bytes s at n = read_as (length_answer s at.pos n) (record { start = at.pos; end = at.pos + n })

-- n bytes as they stand
unfoldable pub read_array : List ℕ → Place → ℕ → Result (List ℕ) TooShort
read_array s at n = read_as (length_answer s at.pos n) (take n (drop at.pos s))
