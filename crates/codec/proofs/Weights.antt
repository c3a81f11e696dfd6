-- The library's bytes of a number, and the number of bytes: each byte times its weight, 256 to the power of its place.
use Prim.Native.Nat.{ℕ, zero, suc, ◌+◌, ◌-◌, ◌*◌, ◌^◌, ◌≤◌, ◌<◌}
use mathlib.Core.Path.{◌≡◌, refl, sym, ap, ap₂, ◌∙◌}
use mathlib.Core.List.{List, [], ◌∷◌}
use lib.ListN.{get_or, length, take, drop}
use lib.Seq.{drop-cons}
use native.Mathlib.Omega.{arith}
use native.Mathlib.Numerals.{add-one}
use native.Mathlib.Nat.{add-zero, pow-zero, pow-succ', mul_assoc, mul_comm}
use Rattle.std.specs.Int.{Width, byte_worth, byte_len, sum_through, from_le_bytes}
use Rattle.codec.specs.LittleEndian.{le_at}

-- the n bytes from a position on, each times its weight
unfoldable pub weighted : List ℕ → ℕ → ℕ → ℕ
weighted s at zero = 0
weighted s at (suc n) = weighted s at n + 256 ^ n * get_or s (at + n) 0

-- the last byte, taken off
last_byte : (s : List ℕ) (at n : ℕ) → le_at s at n + 256 ^ n * get_or s (at + n) 0 ≡ le_at s at (suc n)
unfolding le_at
last_byte s at zero = rw (add-zero at, pow-zero) (omega arith)
last_byte s at (suc n) =
    let ih = last_byte s (at + 1) n in
    let idx : at + 1 + n ≡ at + suc n = omega arith in
    let p : 256 ^ suc n * get_or s (at + suc n) 0 ≡ 256 * (256 ^ n * get_or s (at + suc n) 0) = rw (pow-succ', mul_assoc) in
    omega (arith, rw idx at ih, p)

-- THE LAW, over the widths: the weighted sum is what adding the bytes one by one gives
pub word : (s : List ℕ) (at n : ℕ) → weighted s at n ≡ le_at s at n
unfolding weighted le_at
word s at zero = refl
word s at (suc n) = ap (λ (x : ℕ). x + 256 ^ n * get_or s (at + n) 0) (word s at n) ∙ last_byte s at n

-- the library's sum is the weighted one
summed : (s : List ℕ) (k : ℕ) → sum_through (λ i. byte_worth i (get_or s i 0)) k ≡ weighted s 0 (suc k)
unfolding weighted
summed s zero = let p : 256 ^ 0 ≡ 1 = pow-zero 256 in rw p (omega arith)
summed s (suc k) =
    let e : 0 + suc k ≡ suc k = omega arith in
    ap₂ ◌+◌ (summed s k) (rw e (mul_comm (get_or s (suc k) 0) (256 ^ suc k)))

-- the n bytes from an offset to a position on
unfoldable pub listed : List ℕ → ℕ → ℕ → ℕ → List ℕ
listed s at i zero = []
listed s at i (suc n) = get_or s (at + i) 0 ∷ listed s at (i + 1) n

behind : (b : ℕ) (s : List ℕ) (at n : ℕ) → le_at (b ∷ s) (at + 1) n ≡ le_at s at n
unfolding le_at
behind b s at zero = refl
behind b s at (suc n) = rw (behind b s (at + 1) n, add-one at)

from_offset : (s : List ℕ) (at i n : ℕ) → le_at (listed s at i n) 0 n ≡ le_at s (at + i) n
unfolding le_at listed
from_offset s at i zero = refl
from_offset s at i (suc n) =
    let g : ℕ = get_or s (at + i) 0 in
    let next : at + (i + 1) ≡ at + i + 1 = omega arith in
    ap (λ (x : ℕ). g + 256 * x) (behind g (listed s at (i + 1) n) 0 n ∙ from_offset s at (i + 1) n ∙ ap (λ (x : ℕ). le_at s x n) next)

taken_from : (s : List ℕ) (at i n : ℕ) → at + i + n ≤ length s → listed s at i n ≡ take n (drop (at + i) s)
unfolding listed
taken_from s at i zero h = refl
taken_from s at i (suc n) h =
    let next : at + (i + 1) ≡ suc (at + i) = omega arith in
    rw (drop-cons s (at + i) 0 (omega arith)) (ap (λ (l : List ℕ). get_or s (at + i) 0 ∷ l) (rw next at (taken_from s at (i + 1) n (omega arith))))

-- ---- bytes taken out of a slice one by one: they read as they do there, and are a part of it
pub handed : (s : List ℕ) (at n : ℕ) → le_at (get_or s at 0 ∷ listed s at 1 n) 0 (suc n) ≡ le_at s at (suc n)
unfolding listed
handed s at n = rw (add-zero at) at (from_offset s at 0 (suc n))

pub taken : (s : List ℕ) (at n : ℕ) → at + suc n ≤ length s → get_or s at 0 ∷ listed s at 1 n ≡ take (suc n) (drop at s)
unfolding listed
taken s at n h = rw (add-zero at) at (taken_from s at 0 (suc n) (omega (arith, add-zero at)))

-- a part of a slice reads as it does there
pub part_reads : (s : List ℕ) (at n : ℕ) → at + n ≤ length s → le_at (take n (drop at s)) 0 n ≡ le_at s at n
part_reads s at n h =
    ap (λ (l : List ℕ). le_at l 0 n) (sym (rw (add-zero at) at (taken_from s at 0 n (omega (arith, add-zero at))))) ∙ rw (add-zero at) at (from_offset s at 0 n)

-- THE LIBRARY'S NUMBER of bytes, over the widths
pub number_of : (w : Width) (bytes : List ℕ) → 0 < byte_len w → from_le_bytes w bytes ≡ le_at bytes 0 (byte_len w)
number_of w bytes h =
    let k : ℕ = byte_len w - 1 in
    let n : suc k ≡ byte_len w = omega arith in
    summed bytes k ∙ word bytes 0 (suc k) ∙ ap (λ (x : ℕ). le_at bytes 0 x) n
