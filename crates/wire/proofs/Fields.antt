-- A part of a payload, a field of two payloads that are alike, and the bytes of fields that stand one after the other.
use Prim.Native.Nat.{ℕ, ◌+◌, ◌-◌, ◌≤◌}
use mathlib.Core.Path.{◌≡◌, sym, ap, ap₂, ◌∙◌}
use mathlib.Core.List.{List, ◌++◌, append_assoc}
use lib.ListN.{length, take, drop, length-drop}
use lib.Seq.{take-add, take_all, drop-drop}
use native.Mathlib.Omega.{arith}
use Rattle.codec.specs.LittleEndian.{le_bytes, field_at}
use Rattle.std.specs.Prelude.{Ok}
use Rattle.codec.specs.Reading.{length_answer}
use Rattle.codec.proofs.Lengths.{room}
use Rattle.codec.proofs.Widths.{field_here, read_alike, bytes_read}
use Rattle.wire.specs.Payload.{AlikeOn, Bytes}

-- `&s[pos..]` is the payload without its first bytes
pub part_whole : (s : List ℕ) (pos : ℕ) → take (length s - pos) (drop pos s) ≡ drop pos s
part_whole s pos = take_all (length s - pos) (drop pos s) (omega (arith, length-drop pos s))

-- and it is as long as the length answer has shown
pub rest_long : (s : List ℕ) (pos n : ℕ) → length_answer s pos n ≡ Ok tt → n ≤ length (drop pos s)
rest_long s pos n e = omega (arith, length-drop pos s, room s pos n e)

pub part_long : (s : List ℕ) (pos n : ℕ) → length_answer s pos n ≡ Ok tt → n ≤ length (take (length s - pos) (drop pos s))
part_long s pos n e = rw (part_whole s pos) (rest_long s pos n e)

-- a field that lies where two payloads are alike
pub field_alike : (s t : List ℕ) (from to at n : ℕ) → AlikeOn s t from to → from ≤ at → at + n ≤ to → to ≤ length s → to ≤ length t → field_at s at n ≡ field_at t at n
field_alike s t from to at n e a b hs ht =
    sym (field_here s at n (omega arith)) ∙ read_alike s t at n (λ i p q. e i (omega arith) (omega arith)) ∙ field_here t at n (omega arith)

-- ---- the bytes of fields that stand one after the other are the payload's, after any other bytes
module _ (s : List ℕ) (small : Bytes s) (front : List ℕ) where
  pub first_field : {bytes : List ℕ} (at n : ℕ) → at + n ≤ length s → bytes ≡ front → bytes ++ le_bytes n (field_at s at n) ≡ front ++ take n (drop at s)
  first_field at n h e = ap₂ ◌++◌ e (ap (le_bytes n) (sym (field_here s at n (omega arith))) ∙ bytes_read s at n small h)

  pub next_field :
      {bytes : List ℕ} (at m n : ℕ) →
      at + m + n ≤ length s →
      bytes ≡ front ++ take m (drop at s) →
      bytes ++ le_bytes n (field_at s (at + m) n) ≡ front ++ take (m + n) (drop at s)
  next_field at m n h e =
      ap₂ ◌++◌ e (ap (le_bytes n) (sym (field_here s (at + m) n (omega arith))) ∙ bytes_read s (at + m) n small h)
      ∙ append_assoc front (take m (drop at s)) (take n (drop (at + m) s))
      ∙ ap (λ (l : List ℕ). front ++ (take m (drop at s) ++ take n l)) (sym (drop-drop m at s))
      ∙ ap (λ (l : List ℕ). front ++ l) (sym (take-add m n (drop at s)))
