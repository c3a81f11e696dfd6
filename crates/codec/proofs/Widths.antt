-- Little-endian fields of any width: reading undoes writing, writing undoes reading; equal bytes read alike.
use Prim.Native.Nat.{ℕ, zero, suc, ◌+◌, ◌-◌, ◌*◌, ◌/◌, ◌%◌, ◌^◌, ◌≤◌, ◌<◌}
use mathlib.Core.Path.{◌≡◌, refl, sym, ap, ap₂, ◌∙◌}
use mathlib.Core.List.{List, [], ◌∷◌, ◌++◌}
use lib.ListN.{length, get_or, take, drop, length-append}
use lib.Seq.{append_snoc, drop-cons, get_or-append_seam}
use native.Mathlib.Numerals.{add-one}
use native.Mathlib.Omega.{arith}
use native.Mathlib.Nat.{pow-zero, pow-succ', pow-suc, mod-add-div, div-lt_iff_lt-mul, one-le-pow}
use mathlib.Core.Bool.{Bool, true, false, cond}
use lib.Dec.{leb}
use borrow.Author.Tests.{le-leb, lt-leb}
use Rattle.codec.specs.LittleEndian.{le_at, le_bytes, field_at}

-- WRITING, over the widths: n bytes are written
pub length_bytes : (n x : ℕ) → length (le_bytes n x) ≡ n
unfolding le_bytes
length_bytes zero x = refl
length_bytes (suc n) x = ap suc (length_bytes n (x / 256))

-- READING UNDOES WRITING: the bytes of a number that fits make it up again, wherever they stand
pub read_written : (n x : ℕ) (l r : List ℕ) → x < 256 ^ n → le_at (l ++ (le_bytes n x ++ r)) (length l) n ≡ x
unfolding le_at le_bytes
read_written zero x l r h = let h' : x < 1 = rw pow-zero at h in omega arith
read_written (suc n) x l r h =
    let h' : x < 256 ^ n * 256 = rw pow-suc at h in
    let b : ℕ = x % 256 in
    let ys : List ℕ = le_bytes n (x / 256) ++ r in
    let ih : le_at ((l ++ (b ∷ [])) ++ ys) (length (l ++ (b ∷ []))) n ≡ x / 256 =
    read_written n (x / 256) (l ++ (b ∷ [])) r ((div-lt_iff_lt-mul {k = 256} {x = x} {y = 256 ^ n} (omega arith)).1 h') in
    let one : length (l ++ (b ∷ [])) ≡ length l + 1 = length-append l (b ∷ []) in
    let rest : le_at (l ++ (b ∷ ys)) (length l + 1) n ≡ x / 256 =
    ap (λ (s : List ℕ). le_at s (length l + 1) n) (sym (append_snoc l b ys)) ∙ ap (λ (k : ℕ). le_at ((l ++ (b ∷ [])) ++ ys) k n) (sym one) ∙ ih in
    ap₂ (λ (u v : ℕ). u + 256 * v) (get_or-append_seam l b ys 0) rest ∙ mod-add-div x 256

pub read_bytes_lem : (n x : ℕ) → x < 256 ^ n → le_at (le_bytes n x ++ []) 0 n ≡ x
read_bytes_lem n x h = read_written n x [] [] h

-- WRITING UNDOES READING: the bytes of the number that n bytes make up are those bytes
pub bytes_read : (s : List ℕ) (at n : ℕ) → ((i : ℕ) → get_or s i 0 < 256) → at + n ≤ length s → le_bytes n (le_at s at n) ≡ take n (drop at s)
unfolding le_at le_bytes
bytes_read s at zero small h = refl
bytes_read s at (suc n) small h =
    let g : ℕ = get_or s at 0 in
    let t : ℕ = le_at s (at + 1) n in
    let low : (g + 256 * t) % 256 ≡ g = omega (arith, small at) in
    let high : (g + 256 * t) / 256 ≡ t = omega (arith, small at) in
    let k : at < length s = omega arith in
    rw (low, high, bytes_read s (at + 1) n small (omega arith), add-one at, drop-cons s at 0 k)

-- ---- the two answers of a field
pub field_here : (s : List ℕ) (at n : ℕ) → n ≤ length s - at → le_at s at n ≡ field_at s at n
unfolding field_at
field_here s at n h = simp (le-leb _ _ h)

pub field_not : (s : List ℕ) (at n : ℕ) → length s - at < n → 0 ≡ field_at s at n
unfolding field_at
field_not s at n h = simp (lt-leb _ _ h)

-- n bytes make up a number below 256 ^ n
le_small : (s : List ℕ) (at n : ℕ) → ((i : ℕ) → get_or s i 0 < 256) → le_at s at n < 256 ^ n
unfolding le_at
le_small s at zero small = rw pow-zero (omega arith)
le_small s at (suc n) small = rw pow-succ' (omega (arith, small at, le_small s (at + 1) n small))

pub field_small : (s : List ℕ) (at n : ℕ) → ((i : ℕ) → get_or s i 0 < 256) → field_at s at n < 256 ^ n
unfolding field_at
field_small s at n small = go (leb n (length s - at))
  where
    go : (t : Bool) → cond t (le_at s at n) 0 < 256 ^ n
    go true = le_small s at n small
    go false = one-le-pow n 256 (omega arith)

-- equal bytes read alike
pub read_alike : (s t : List ℕ) (at n : ℕ) → ((i : ℕ) → at ≤ i → i < at + n → get_or s i 0 ≡ get_or t i 0) → le_at s at n ≡ le_at t at n
unfolding le_at
read_alike s t at zero e = refl
read_alike s t at (suc n) e = rw (e at (omega arith) (omega arith), read_alike s t (at + 1) n (λ i a b. e i (omega arith) (omega arith)))
