-- The two answers of a store: the bytes in the place of the list's own, or the list as it was.
use Prim.Native.Nat.{ℕ, ◌+◌, ◌-◌, ◌≤◌, ◌<◌}
use mathlib.Core.Path.{◌≡◌, sym, ap, ◌∙◌}
use mathlib.Core.List.{List, [], ◌∷◌, ◌++◌, append_assoc}
use lib.ListN.{length, take, drop}
use lib.Seq.{sets, sets-eq, drop-drop}
use native.Mathlib.Omega.{arith}
use borrow.Author.Tests.{le-leb, lt-leb}
use borrow.Rule.Slice.PartMut.{put_mid}
use Rattle.std.proofs.lemmas.List.{drop_all, take_all, append-nil}
use Rattle.codec.specs.LittleEndian.{le_bytes, stored, with_field}
use Rattle.codec.proofs.Widths.{length_bytes}

pub stored_here : (b : List ℕ) (at : ℕ) (v : List ℕ) → length v ≤ length b - at → stored b at v ≡ take at b ++ v ++ drop (at + length v) b
unfolding stored
stored_here b at v h = simp (le-leb _ _ h)

pub stored_not : (b : List ℕ) (at : ℕ) (v : List ℕ) → length b - at < length v → stored b at v ≡ b
unfolding stored
stored_not b at v h = simp (lt-leb _ _ h)

-- a part of the list is written over
pub written_over : (b : List ℕ) (at : ℕ) (v : List ℕ) → at + length v ≤ length b → put_mid at (at + length v - at) b v ≡ stored b at v
written_over b at v h =
    let k : at + length v - at ≡ length v = omega arith in
    let behind : drop (length v) (drop at b) ≡ drop (at + length v) b = drop-drop (length v) at b in
    ap (λ (n : ℕ). put_mid at n b v) k
    ∙ ap (λ (l : List ℕ). take at b ++ (v ++ l)) behind
    ∙ sym (append_assoc (take at b) v (drop (at + length v) b))
    ∙ sym (stored_here b at v (omega arith))

-- no bytes change nothing, wherever they stand
pub not_written : (b : List ℕ) (at : ℕ) (v : List ℕ) → length b < at + length v → b ≡ stored b at v
not_written b at [] h =
    sym (stored_here b at [] (omega arith) ∙ rw (take_all at b (omega arith), drop_all (at + 0) b (omega arith)) (append-nil (b ++ []) ∙ append-nil b))
not_written b at (x ∷ v) h = sym (stored_not b at (x ∷ v) (omega arith))

-- a field stored byte by byte is the field stored; and one that does not fit leaves the list
pub with_field_here : (b : List ℕ) (at n x : ℕ) → 0 < n → n ≤ length b - at → sets b at (le_bytes n x) ≡ with_field b at n x
unfolding with_field
with_field_here b at n x p h =
    let e : length (le_bytes n x) ≡ n = length_bytes n x in
    sets-eq (le_bytes n x) b at (omega (arith, e)) ∙ sym (stored_here b at (le_bytes n x) (omega (arith, e)))

pub with_field_not : (b : List ℕ) (at n x : ℕ) → length b - at < n → b ≡ with_field b at n x
unfolding with_field
with_field_not b at n x h = sym (stored_not b at (le_bytes n x) (omega (arith, length_bytes n x)))
