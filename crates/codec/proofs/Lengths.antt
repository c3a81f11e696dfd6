-- The length answer by the test that decides it, what it says of the test, and of a field's value there.
use Prim.Native.Nat.{ℕ, ◌+◌, ◌-◌, ◌≤◌, ◌<◌}
use mathlib.Core.Path.{◌≡◌, refl}
use mathlib.Core.Bool.{Bool, true, false, cond}
use mathlib.Core.List.{List}
use native.Mathlib.Omega.{arith}
use lib.ListN.{length}
use borrow.Author.Tests.{le-leb, lt-leb, leb-true, leb-false}
use Rattle.std.specs.Prelude.{Result, Ok, Err}
use Rattle.codec.specs.LittleEndian.{le_at, field_at}
use Rattle.codec.specs.Reading.{Length, within, length_answer, too_short, read_as}
use Rattle.codec.specs.declared.reader.TooShort.{TooShort}
use Rattle.codec.proofs.Widths.{field_here, field_not}

picked_enough : (t : Bool) (e : TooShort) → ◌≡◌ {A = Length} (cond t (Ok tt) (Err e)) (Ok tt) → t ≡ true
picked_enough true e h = refl
picked_enough false e h = absurd cc

picked_short : (t : Bool) (e k : TooShort) → ◌≡◌ {A = Length} (cond t (Ok tt) (Err e)) (Err k) → t ≡ false
picked_short true e k h = absurd cc
picked_short false e k h = refl

module _ (s : List ℕ) (pos n : ℕ) where
  pub enough : length_answer s pos n ≡ Ok tt → within s pos n ≡ true
  unfolding length_answer
  enough e = picked_enough (within s pos n) (too_short s pos n) e

  pub room : length_answer s pos n ≡ Ok tt → pos + n ≤ length s
  room e = leb-true (pos + n) (length s) (enough e)

  pub short : (e : TooShort) → length_answer s pos n ≡ Err e → within s pos n ≡ false
  unfolding length_answer
  short e h = picked_short (within s pos n) (too_short s pos n) e h

  -- a short answer holds the needed length and the payload's own
  pub short_lengths : (e : TooShort) → length_answer s pos n ≡ Err e → length_answer s pos n ≡ Err (too_short s pos n)
  unfolding length_answer
  short_lengths e h = rw (short e h)

  pub answer_enough : pos + n ≤ length s → ◌≡◌ {A = Length} (Ok tt) (length_answer s pos n)
  unfolding length_answer
  answer_enough h = simp (le-leb _ _ h)

  pub answer_short : length s < pos + n → ◌≡◌ {A = Length} (Err (too_short s pos n)) (length_answer s pos n)
  unfolding length_answer
  answer_short h = simp (lt-leb _ _ h)

  -- ---- there is room for a field exactly where the answer is enough
  left : length_answer s pos n ≡ Ok tt → n ≤ length s - pos
  left e = omega (arith, room e)

  not_left : (e : TooShort) → 0 < n → length_answer s pos n ≡ Err e → length s - pos < n
  not_left e p h = omega (arith, leb-false (pos + n) (length s) (short e h))

  -- a field is read where there is room for it, and is 0 where there is none
  pub whole : length_answer s pos n ≡ Ok tt → le_at s pos n ≡ field_at s pos n
  whole e = field_here s pos n (left e)

  pub lacking : (e : TooShort) → 0 < n → length_answer s pos n ≡ Err e → 0 ≡ field_at s pos n
  lacking e p h = field_not s pos n (not_left e p h)

  -- ---- a read's result by its length answer
  module _ {A : Type 0} (x : A) where
    pub there : length_answer s pos n ≡ Ok tt → ◌≡◌ {A = Result A TooShort} (Ok x) (read_as (length_answer s pos n) x)
    unfolding read_as
    there e = rw e

    pub refused_there : (e : TooShort) → length_answer s pos n ≡ Err e → ◌≡◌ {A = Result A TooShort} (Err e) (read_as (length_answer s pos n) x)
    unfolding read_as
    refused_there e h = rw h
