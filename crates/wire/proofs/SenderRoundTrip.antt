-- Encoding and decoding a sender's report undo each other, and the reserved and trailing bytes of a payload do not matter.
use Prim.Native.Nat.{ℕ, ◌+◌, ◌≤◌}
use mathlib.Core.Path.{◌≡◌, refl, sym, ap, ◌∙◌}
use mathlib.Core.List.{List, []}
use lib.ListN.{length, take, drop}
use native.Mathlib.Omega.{arith}
use Rattle.codec.specs.LittleEndian.{le_at, le_bytes, field_at}
use Rattle.codec.specs.Reading.{Length}
use Rattle.codec.proofs.Lengths.{answer_enough}
use Rattle.codec.proofs.Widths.{read_bytes_lem}
use Rattle.wire.specs.Payload.{AlikeOn, Bytes}
use Rattle.wire.specs.SenderReport.{encoded, encoded_into, report_in, decoded_by, accepted, decoded, Fits}
use Rattle.wire.specs.declared.sender_report.SenderReport.{SenderReport}
use Rattle.wire.proofs.Messages.{payload_alike, payload_length}
use Rattle.wire.proofs.Fields.{field_alike, first_field, next_field}

-- a payload of 47 bytes or more is accepted
pub decodes : (s : List ℕ) → 47 ≤ length s → decoded s ≡ accepted (report_in s)
unfolding decoded
decodes s h = ap (λ (answer : Length). decoded_by answer (report_in s)) (sym (answer_enough s 0 47 h))

-- PAYLOADS THAT AGREE outside the reserved and trailing bytes decode alike
pub decode_alike : (s t : List ℕ) → 47 ≤ length s → 47 ≤ length t → AlikeOn s t 3 47 → decoded s ≡ decoded t
unfolding report_in
decode_alike s t hs ht e =
    let f : (at n : ℕ) → 3 ≤ at → at + n ≤ 47 → field_at s at n ≡ field_at t at n = λ at n a b. field_alike s t 3 47 at n e a b hs ht in
    decodes s hs
    ∙ ap accepted (λ i. record {
      interval_start_counter = f 3 8 (omega arith) (omega arith) i;
      interval_end_counter = f 11 8 (omega arith) (omega arith) i;
      interval_start_timestamp = f 19 4 (omega arith) (omega arith) i;
      interval_end_timestamp = f 23 4 (omega arith) (omega arith) i;
      interval_bytes_sent = f 27 4 (omega arith) (omega arith) i;
      cumulative_packets_sent = f 31 8 (omega arith) (omega arith) i;
      cumulative_bytes_sent = f 39 8 (omega arith) (omega arith) i;
    })
    ∙ sym (decodes t ht)

read_back : (r : SenderReport) → Fits r → report_in (drop 1 (encoded r)) ≡ r
unfolding report_in encoded field_at le_at le_bytes
read_back r h i = record {
  interval_start_counter = read_bytes_lem 8 r.interval_start_counter h.interval_start_counter i;
  interval_end_counter = read_bytes_lem 8 r.interval_end_counter h.interval_end_counter i;
  interval_start_timestamp = read_bytes_lem 4 r.interval_start_timestamp h.interval_start_timestamp i;
  interval_end_timestamp = read_bytes_lem 4 r.interval_end_timestamp h.interval_end_timestamp i;
  interval_bytes_sent = read_bytes_lem 4 r.interval_bytes_sent h.interval_bytes_sent i;
  cumulative_packets_sent = read_bytes_lem 8 r.cumulative_packets_sent h.cumulative_packets_sent i;
  cumulative_bytes_sent = read_bytes_lem 8 r.cumulative_bytes_sent h.cumulative_bytes_sent i;
}

own_length : (r : SenderReport) → length (drop 1 (encoded r)) ≡ 47
unfolding encoded le_bytes
own_length r = refl

-- DECODING UNDOES ENCODING, for every report
pub round_trip : (r : SenderReport) → Fits r → decoded (drop 1 (encoded r)) ≡ accepted r
round_trip r h = decodes (drop 1 (encoded r)) (omega (arith, own_length r)) ∙ ap accepted (read_back r h)

-- and in every buffer that it is encoded into
pub round_trip_in : (r : SenderReport) (out : List ℕ) → Fits r → 48 ≤ length out → decoded (drop 1 (encoded_into out r)) ≡ accepted r
unfolding encoded le_bytes
round_trip_in r out h k =
    let payload = drop 1 (encoded_into out r) in
    sym (decode_alike (drop 1 (encoded r)) payload (omega arith) (omega (arith, payload_length out (encoded r) k)) (payload_alike out (encoded r) 3 k)) ∙ round_trip r h

-- ENCODING UNDOES DECODING: the fields' bytes are the payload's
pub fields_back : (s : List ℕ) → Bytes s → 47 ≤ length s → drop 4 (encoded (report_in s)) ≡ take 44 (drop 3 s)
unfolding encoded report_in
fields_back s small h =
    next_field s small [] 3 36 8 (omega arith)
    (next_field s small [] 3 28 8 (omega arith)
    (next_field s small [] 3 24 4 (omega arith)
    (next_field s small [] 3 20 4 (omega arith)
    (next_field s small [] 3 16 4 (omega arith) (next_field s small [] 3 8 8 (omega arith) (first_field s small [] 3 8 (omega arith) refl))))))
