-- A field that is read, by the bytes that are read there.
use Prim.Native.Nat.{ℕ, ◌+◌, ◌≤◌, ◌<◌}
use mathlib.Core.Path.{◌≡◌, refl, sym, ap, ◌∙◌}
use mathlib.Core.List.{List}
use lib.ListN.{length, take, drop}
use native.Mathlib.Omega.{arith}
use Rattle.std.specs.Prelude.{Result, Ok, Err}
use Rattle.std.specs.Int.{Width, w8, w16, w32, w64, byte_len, from_le_bytes}
use Rattle.codec.specs.LittleEndian.{le_at, field_at}
use Rattle.codec.specs.Reading.{Length, length_answer, read_as, read_u8, read_u16, read_u32, read_u64, read_array}
use Rattle.codec.specs.declared.Place.{Place}
use Rattle.codec.specs.declared.reader.TooShort.{TooShort}
use Rattle.codec.proofs.Lengths.{room}
use Rattle.codec.proofs.Weights.{part_reads, number_of}
use Rattle.codec.proofs.Widths.{field_here}

-- the same length answer decides for each value
read_alike : {A : Type 0} (a : Length) (x y : A) → read_as a x ≡ Ok y → (x ≡ y) × (a ≡ Ok tt)
unfolding read_as
read_alike (Ok enough) x y e = (cc, refl)
read_alike (Err short) x y e = absurd cc

short_alike : {A B : Type 0} (a : Length) (x : A) (z : B) (k : TooShort) → read_as a x ≡ Err k → ◌≡◌ {A = Result B TooShort} (Err k) (read_as a z)
unfolding read_as
short_alike (Ok enough) x z k e = absurd cc
short_alike (Err short) x z k e = cc

there_alike : {B : Type 0} (a : Length) (y z : B) → a ≡ Ok tt → y ≡ z → ◌≡◌ {A = Result B TooShort} (Ok y) (read_as a z)
unfolding read_as
there_alike a y z e h = rw (e, h)

module _ (s : List ℕ) (at : Place) where
  number : (w : Width) (bytes : List ℕ) → 0 < byte_len w → read_array s at (byte_len w) ≡ Ok bytes →
      ◌≡◌ {A = Result ℕ TooShort} (Ok (from_le_bytes w bytes)) (read_as (length_answer s at.pos (byte_len w)) (field_at s at.pos (byte_len w)))
  unfolding read_array
  number w bytes h e =
      let n : ℕ = byte_len w in
      let k = read_alike (length_answer s at.pos n) (take n (drop at.pos s)) bytes e in
      let inside : at.pos + n ≤ length s = room s at.pos n k.1 in
      there_alike (length_answer s at.pos n) _ _ k.1
      (number_of w bytes h ∙ ap (λ (l : List ℕ). le_at l 0 n) (sym k.0) ∙ part_reads s at.pos n inside ∙ field_here s at.pos n (omega (arith, inside)))

  pub read_8 : (bytes : List ℕ) → read_array s at 1 ≡ Ok bytes → ◌≡◌ {A = Result ℕ TooShort} (Ok (from_le_bytes w8 bytes)) (read_u8 s at)
  unfolding read_u8
  read_8 bytes e = number w8 bytes (omega arith) e

  pub short_8 : (k : TooShort) → read_array s at 1 ≡ Err k → ◌≡◌ {A = Result ℕ TooShort} (Err k) (read_u8 s at)
  unfolding read_u8 read_array
  short_8 k e = short_alike (length_answer s at.pos 1) (take 1 (drop at.pos s)) (field_at s at.pos 1) k e

  pub read_16 : (bytes : List ℕ) → read_array s at 2 ≡ Ok bytes → ◌≡◌ {A = Result ℕ TooShort} (Ok (from_le_bytes w16 bytes)) (read_u16 s at)
  unfolding read_u16
  read_16 bytes e = number w16 bytes (omega arith) e

  pub short_16 : (k : TooShort) → read_array s at 2 ≡ Err k → ◌≡◌ {A = Result ℕ TooShort} (Err k) (read_u16 s at)
  unfolding read_u16 read_array
  short_16 k e = short_alike (length_answer s at.pos 2) (take 2 (drop at.pos s)) (field_at s at.pos 2) k e

  pub read_32 : (bytes : List ℕ) → read_array s at 4 ≡ Ok bytes → ◌≡◌ {A = Result ℕ TooShort} (Ok (from_le_bytes w32 bytes)) (read_u32 s at)
  unfolding read_u32
  read_32 bytes e = number w32 bytes (omega arith) e

  pub short_32 : (k : TooShort) → read_array s at 4 ≡ Err k → ◌≡◌ {A = Result ℕ TooShort} (Err k) (read_u32 s at)
  unfolding read_u32 read_array
  short_32 k e = short_alike (length_answer s at.pos 4) (take 4 (drop at.pos s)) (field_at s at.pos 4) k e

  pub read_64 : (bytes : List ℕ) → read_array s at 8 ≡ Ok bytes → ◌≡◌ {A = Result ℕ TooShort} (Ok (from_le_bytes w64 bytes)) (read_u64 s at)
  unfolding read_u64
  read_64 bytes e = number w64 bytes (omega arith) e

  pub short_64 : (k : TooShort) → read_array s at 8 ≡ Err k → ◌≡◌ {A = Result ℕ TooShort} (Err k) (read_u64 s at)
  unfolding read_u64 read_array
  short_64 k e = short_alike (length_answer s at.pos 8) (take 8 (drop at.pos s)) (field_at s at.pos 8) k e
