-- The bytes that stand at a position, by the test whether they lie in the slice whole, and the number that they make up.
use Prim.Native.Nat.{ℕ, zero, suc, ◌+◌, ◌/◌, ◌%◌, ◌^◌, ◌≤◌, ◌<◌}
use mathlib.Core.Path.{◌≡◌, refl, sym, ap, ◌∙◌}
use mathlib.Core.Bool.{Bool, true, false, cond}
use mathlib.Core.List.{List, [], ◌∷◌}
use lib.ListN.{length, take, drop}
use lib.Dec.{leb}
use native.Mathlib.Omega.{arith}
use native.Mathlib.Nat.{pow-zero, pow-suc, div-div-eq-div-mul}
use borrow.Author.Tests.{leb-true, leb-false}
use Rattle.std.specs.Prelude.{Option, None, Some}
use Rattle.std.specs.Int.{Width, w16, w32, w64, byte_at, byte_len, bytes_low_first, from_le_bytes, to_le_bytes}
use Rattle.codec.specs.LittleEndian.{le_at, le_bytes, bytes_at, field_at}
use Rattle.codec.proofs.Weights.{part_reads, number_of}
use Rattle.codec.proofs.Widths.{field_here, field_not}

-- ---- what the bytes say of the test
module _ (s : List ℕ) (at n : ℕ) where
  here : (bytes : List ℕ) → bytes_at s at n ≡ Some bytes → (at + n ≤ length s) × (bytes ≡ take n (drop at s))
  unfolding bytes_at
  here bytes e = go (leb (at + n) (length s)) (leb-true (at + n) (length s)) e
    where
      go : (t : Bool) → (t ≡ true → at + n ≤ length s) → ◌≡◌ {A = Option (List ℕ)} (cond t (Some (take n (drop at s))) None) (Some bytes) →
          (at + n ≤ length s) × (bytes ≡ take n (drop at s))
      go true f e = (f refl, cc)
      go false f e = absurd cc

  missing : bytes_at s at n ≡ None → length s < at + n
  unfolding bytes_at
  missing e = go (leb (at + n) (length s)) (leb-false (at + n) (length s)) e
    where
      go : (t : Bool) → (t ≡ false → length s < at + n) → ◌≡◌ {A = Option (List ℕ)} (cond t (Some (take n (drop at s))) None) None → length s < at + n
      go true f e = absurd cc
      go false f e = f refl

-- ---- a field by its bytes, for each width
module _ (s : List ℕ) (at : ℕ) where
  number : (w : Width) (bytes : List ℕ) → 0 < byte_len w → bytes_at s at (byte_len w) ≡ Some bytes → from_le_bytes w bytes ≡ field_at s at (byte_len w)
  number w bytes h e =
      let k = here s at (byte_len w) bytes e in
      number_of w bytes h
      ∙ ap (λ (l : List ℕ). le_at l 0 (byte_len w)) k.1
      ∙ part_reads s at (byte_len w) k.0
      ∙ field_here s at (byte_len w) (omega (arith, k.0))

  pub number_16 : (bytes : List ℕ) → bytes_at s at 2 ≡ Some bytes → from_le_bytes w16 bytes ≡ field_at s at 2
  number_16 bytes e = number w16 bytes (omega arith) e

  pub number_32 : (bytes : List ℕ) → bytes_at s at 4 ≡ Some bytes → from_le_bytes w32 bytes ≡ field_at s at 4
  number_32 bytes e = number w32 bytes (omega arith) e

  pub number_64 : (bytes : List ℕ) → bytes_at s at 8 ≡ Some bytes → from_le_bytes w64 bytes ≡ field_at s at 8
  number_64 bytes e = number w64 bytes (omega arith) e

  pub no_number : (n : ℕ) → 0 < n → bytes_at s at n ≡ None → 0 ≡ field_at s at n
  no_number n h e = field_not s at n (omega (arith, missing s at n e))

-- ---- the library's bytes of a number are those that are stored
byte_is : (i x : ℕ) → byte_at i x ≡ x / 256 ^ i % 256
byte_is zero x = let p : 256 ^ 0 ≡ 1 = pow-zero 256 in rw p (omega arith)
byte_is (suc i) x = refl

bytes_from : (i k x : ℕ) → bytes_low_first i k x ≡ le_bytes k (x / 256 ^ i)
unfolding le_bytes
bytes_from i zero x = refl
bytes_from i (suc k) x =
    let next : x / 256 ^ i / 256 ≡ x / 256 ^ suc i = rw pow-suc (div-div-eq-div-mul x (256 ^ i) 256) in
    rw (byte_is i x) (ap (λ (l : List ℕ). (x / 256 ^ i % 256) ∷ l) (bytes_from (suc i) k x ∙ ap (le_bytes k) (sym next)))

pub bytes_of : (k x : ℕ) → bytes_low_first 0 k x ≡ le_bytes k x
bytes_of k x = bytes_from 0 k x ∙ ap (le_bytes k) (let p : 256 ^ 0 ≡ 1 = pow-zero 256 in rw p (omega arith))

module _ (x : ℕ) where
  pub bytes_8 : x < 256 → x ∷ [] ≡ le_bytes 1 x
  unfolding le_bytes
  bytes_8 h = let e : x % 256 ≡ x = omega arith in rw e refl

  pub bytes_16 : to_le_bytes w16 x ≡ le_bytes 2 x
  bytes_16 = bytes_of 2 x

  pub bytes_32 : to_le_bytes w32 x ≡ le_bytes 4 x
  bytes_32 = bytes_of 4 x

  pub bytes_64 : to_le_bytes w64 x ≡ le_bytes 8 x
  bytes_64 = bytes_of 8 x
