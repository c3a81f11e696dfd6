-- THE BYTES OF A REPORT are those of the fields of document 01, "Report bytes", in its order, and decoding them gives the report.
use Prim.Native.Nat.{ℕ, zero, suc, ◌+◌, ◌/◌, ◌%◌, ◌^◌}
use mathlib.Core.Path.{◌≡◌, refl, sym, ap, ap₂, ◌∙◌}
use mathlib.Core.List.{List, [], ◌∷◌, ◌++◌}
use lib.IntN.{ℤ, pos, negsuc}
use lib.ListN.{drop}
use mir.Syntax.{w32}
use mir.Val.{of_z}
use native.Mathlib.Nat.{div-one, div-div-eq-div-mul, pow-suc}
use native.Mathlib.Numerals.{add-one}
use native.Mathlib.Omega.{arith}
use Rattle.codec.specs.LittleEndian.{le_bytes}
use Rattle.wire.specs.SenderReport as sender
use Rattle.wire.specs.ReceiverReport as receiver
use Rattle.wire.specs.declared.sender_report.SenderReport.{SenderReport}
use Rattle.wire.specs.declared.receiver_report.ReceiverReport.{ReceiverReport}
use Rattle.wire.proofs.SenderRoundTrip as sender-round-trip
use Rattle.wire.proofs.ReceiverRoundTrip as receiver-round-trip
use Rattle.sentences.specs.ReportBytes.{Field, bytes_from, laid_out, signed32, sender_fields, receiver_fields}

-- the bytes from byte k on are those of what k bytes leave
from_byte : (k n x : ℕ) → bytes_from k n x ≡ le_bytes n (x / 256 ^ k)
unfolding bytes_from le_bytes
from_byte k zero x = refl
from_byte k (suc n) x =
    let next : x / 256 ^ (k + 1) ≡ x / 256 ^ k / 256 = rw (add-one k, pow-suc 256 k) (sym (div-div-eq-div-mul x (256 ^ k) 256)) in
    ap (λ (l : List ℕ). (x / 256 ^ k % 256) ∷ l) (from_byte (k + 1) n x ∙ ap (le_bytes n) next)

-- a field's bytes, the least first
field_bytes : (n x : ℕ) → bytes_from 0 n x ≡ le_bytes n x
field_bytes n x = from_byte 0 n x ∙ ap (le_bytes n) (div-one x)

-- the same layout by the code's bytes
abbrev joined : List Field → List ℕ
joined [] = []
joined (f ∷ rest) = le_bytes f.width f.value ++ joined rest

laid_out_lem : (fields : List Field) → laid_out fields ≡ joined fields
unfolding laid_out
laid_out_lem [] = refl
laid_out_lem (f ∷ rest) = ap₂ ◌++◌ (field_bytes f.width f.value) (laid_out_lem rest)

pub sender_bytes : (r : SenderReport) → sender.encoded r ≡ laid_out (sender_fields r)
unfolding sender.encoded sender_fields le_bytes
sender_bytes r = sym (laid_out_lem (sender_fields r))

-- the trend's four bytes
signed : (z : ℤ) → of_z w32 z ≡ signed32 z
signed (pos n) = refl
signed (negsuc n) = omega arith

pub receiver_bytes : (r : ReceiverReport) → receiver.encoded r ≡ laid_out (receiver_fields r)
unfolding receiver.encoded receiver_fields le_bytes
receiver_bytes r = rw (signed r.owd_trend) (sym (laid_out_lem (receiver_fields r)))

-- ---- "`decode` takes the payload after the type byte"
pub sender_fields_read : (r : SenderReport) → sender.Fits r → sender.decoded (drop 1 (laid_out (sender_fields r))) ≡ sender.accepted r
sender_fields_read r h = ap (λ (bytes : List ℕ). sender.decoded (drop 1 bytes)) (sym (sender_bytes r)) ∙ sender-round-trip.round_trip r h

pub receiver_fields_read : (r : ReceiverReport) → receiver.Fits r → receiver.decoded (drop 1 (laid_out (receiver_fields r))) ≡ receiver.accepted r
receiver_fields_read r h = ap (λ (bytes : List ℕ). receiver.decoded (drop 1 bytes)) (sym (receiver_bytes r)) ∙ receiver-round-trip.round_trip r h
