-- Encoding and decoding a receiver's report undo each other, and the reserved and trailing bytes of a payload do not matter.
use Prim.Native.Nat.{ℕ, ◌+◌, ◌≤◌, ◌<◌, ◌^◌}
use mathlib.Core.Path.{◌≡◌, refl, sym, ap, ◌∙◌}
use mathlib.Core.Bool.{Bool, true, false, cond}
use mathlib.Core.List.{List, [], ◌∷◌, ◌++◌}
use lib.ListN.{length, take, drop}
use native.Mathlib.Omega.{arith}
use borrow.Author.Tests.{leb-true}
use mir.Syntax.{w32}
use mir.Val.{to_z, of_z}
use mir.Facts.{to_z-of_z, of_z-to_z, Fits-of_z}
use Rattle.codec.specs.LittleEndian.{le_at, le_bytes, field_at}
use Rattle.codec.specs.Reading.{Length, values_of, by_length}
use Rattle.codec.proofs.Lengths.{answer_enough}
use Rattle.codec.proofs.Widths.{read_bytes_lem, field_small}
use lib.Dec.{leb}
use Rattle.wire.specs.Payload.{AlikeOn, Bytes, room_answer}
use Rattle.wire.specs.ReceiverReport.{encoded, encode_answer, encoded_into, report_in, decoded_by, accepted, decoded, Fits, ReceiverReportDecoded}
use Rattle.wire.specs.declared.receiver_report.ReceiverReport.{ReceiverReport}
use Rattle.wire.proofs.Messages.{payload_alike, payload_length}
use Rattle.wire.proofs.Fields.{field_alike, first_field, next_field}

-- a payload of 67 bytes or more is accepted
pub decodes : (s : List ℕ) → 67 ≤ length s → decoded s ≡ accepted (report_in s)
unfolding decoded
decodes s h = ap (λ (answer : Length). decoded_by answer (report_in s)) (sym (answer_enough s 0 67 h))

-- PAYLOADS THAT AGREE outside the reserved and trailing bytes decode alike
pub decode_alike : (s t : List ℕ) → 67 ≤ length s → 67 ≤ length t → AlikeOn s t 3 37 → AlikeOn s t 39 67 → decoded s ≡ decoded t
unfolding report_in
decode_alike s t hs ht e d =
    let f : (at n : ℕ) → 3 ≤ at → at + n ≤ 37 → field_at s at n ≡ field_at t at n = λ at n a b. field_alike s t 3 37 at n e a b (omega arith) (omega arith) in
    let g : (at n : ℕ) → 39 ≤ at → at + n ≤ 67 → field_at s at n ≡ field_at t at n = λ at n a b. field_alike s t 39 67 at n d a b hs ht in
    decodes s hs
    ∙ ap accepted (λ i. record {
      highest_counter = f 3 8 (omega arith) (omega arith) i;
      cumulative_packets_recv = f 11 8 (omega arith) (omega arith) i;
      cumulative_bytes_recv = f 19 8 (omega arith) (omega arith) i;
      timestamp_echo = f 27 4 (omega arith) (omega arith) i;
      dwell_time = f 31 2 (omega arith) (omega arith) i;
      max_burst_loss = f 33 2 (omega arith) (omega arith) i;
      mean_burst_loss = f 35 2 (omega arith) (omega arith) i;
      jitter = g 39 4 (omega arith) (omega arith) i;
      ecn_ce_count = g 43 4 (omega arith) (omega arith) i;
      owd_trend = (ap (to_z w32) (g 47 4 (omega arith) (omega arith))) i;
      burst_loss_count = g 51 4 (omega arith) (omega arith) i;
      cumulative_reorder_count = g 55 4 (omega arith) (omega arith) i;
      interval_packets_recv = g 59 4 (omega arith) (omega arith) i;
      interval_bytes_recv = g 63 4 (omega arith) (omega arith) i;
    })
    ∙ sym (decodes t ht)

read_back : (r : ReceiverReport) → Fits r → report_in (drop 1 (encoded r)) ≡ r
unfolding report_in encoded field_at le_at le_bytes
read_back r h i = record {
  highest_counter = read_bytes_lem 8 r.highest_counter h.highest_counter i;
  cumulative_packets_recv = read_bytes_lem 8 r.cumulative_packets_recv h.cumulative_packets_recv i;
  cumulative_bytes_recv = read_bytes_lem 8 r.cumulative_bytes_recv h.cumulative_bytes_recv i;
  timestamp_echo = read_bytes_lem 4 r.timestamp_echo h.timestamp_echo i;
  dwell_time = read_bytes_lem 2 r.dwell_time h.dwell_time i;
  max_burst_loss = read_bytes_lem 2 r.max_burst_loss h.max_burst_loss i;
  mean_burst_loss = read_bytes_lem 2 r.mean_burst_loss h.mean_burst_loss i;
  jitter = read_bytes_lem 4 r.jitter h.jitter i;
  ecn_ce_count = read_bytes_lem 4 r.ecn_ce_count h.ecn_ce_count i;
  owd_trend = (ap (to_z w32) (read_bytes_lem 4 (of_z w32 r.owd_trend) (Fits-of_z h.owd_trend).fits) ∙ to_z-of_z h.owd_trend) i;
  burst_loss_count = read_bytes_lem 4 r.burst_loss_count h.burst_loss_count i;
  cumulative_reorder_count = read_bytes_lem 4 r.cumulative_reorder_count h.cumulative_reorder_count i;
  interval_packets_recv = read_bytes_lem 4 r.interval_packets_recv h.interval_packets_recv i;
  interval_bytes_recv = read_bytes_lem 4 r.interval_bytes_recv h.interval_bytes_recv i;
}

own_length : (r : ReceiverReport) → length (drop 1 (encoded r)) ≡ 67
unfolding encoded le_bytes
own_length r = refl

-- DECODING UNDOES ENCODING, for every report
pub round_trip : (r : ReceiverReport) → Fits r → decoded (drop 1 (encoded r)) ≡ accepted r
round_trip r h = decodes (drop 1 (encoded r)) (omega (arith, own_length r)) ∙ ap accepted (read_back r h)

-- and in every buffer that it is encoded into
pub round_trip_in : (r : ReceiverReport) (out : List ℕ) → Fits r → 68 ≤ length out → decoded (drop 1 (encoded_into out r)) ≡ accepted r
unfolding encoded le_bytes
round_trip_in r out h k =
    let payload = drop 1 (encoded_into out r) in
    let same = payload_alike out (encoded r) 3 k in
    sym
    (decode_alike (drop 1 (encoded r)) payload (omega arith) (omega (arith, payload_length out (encoded r) k)) (λ i a b. same i a (omega arith)) (λ i a b. same i (omega arith) b))
    ∙ round_trip r h

-- the jitter comes back whatever the other fields hold, from every buffer that has room
pub jitter_back : (r : ReceiverReport) (out : List ℕ) → r.jitter < 2 ^ 32 → encode_answer out ≡ 0 →
    ((decoded (drop 1 (encoded_into out r))).refusal ≡ 0) × ((decoded (drop 1 (encoded_into out r))).report.jitter ≡ r.jitter)
unfolding decoded_by values_of by_length encoded le_bytes report_in field_at le_at room_answer
jitter_back r out h room =
    let k : 68 ≤ length out = roomy (leb 68 (length out)) (leb-true 68 (length out)) room in
    let payload = drop 1 (encoded_into out r) in
    let same = payload_alike out (encoded r) 3 k in
    let alike = decode_alike (drop 1 (encoded r)) payload (omega arith) (omega (arith, payload_length out (encoded r) k)) (λ i a b. same i a (omega arith)) (λ i a b. same i (omega arith) b) in
    let own : decoded payload ≡ accepted (report_in (drop 1 (encoded r))) = sym alike ∙ decodes (drop 1 (encoded r)) (omega (arith, own_length r)) in
    (ap (λ (d : ReceiverReportDecoded). d.refusal) own, ap (λ (d : ReceiverReportDecoded). d.report.jitter) own ∙ read_bytes_lem 4 r.jitter h)
  where
    roomy : (b : Bool) → (b ≡ true → 68 ≤ length out) → ◌≡◌ {A = ℕ} (cond b 0 6) 0 → 68 ≤ length out
    roomy true f e = f refl
    roomy false f e = absurd (omega arith)

-- ENCODING UNDOES DECODING: the fields' bytes are the payload's, and the reserved ones 0
pub fields_back : (s : List ℕ) → Bytes s → 67 ≤ length s → drop 4 (encoded (report_in s)) ≡ take 34 (drop 3 s) ++ (0 ∷ 0 ∷ []) ++ take 28 (drop 39 s)
unfolding encoded report_in
fields_back s small h =
    let front = take 34 (drop 3 s) ++ (0 ∷ 0 ∷ []) in
    rw (of_z-to_z {w = w32} {n = field_at s 47 4} (record { fits = field_small s 47 4 small }))
    (next_field s small front 39 24 4 (omega arith)
    (next_field s small front 39 20 4 (omega arith)
    (next_field s small front 39 16 4 (omega arith)
    (next_field s small front 39 12 4 (omega arith)
    (next_field s small front 39 8 4 (omega arith)
    (next_field s small front 39 4 4 (omega arith)
    (first_field s small front 39 4 (omega arith)
    (ap (λ (l : List ℕ). l ++ (0 ∷ 0 ∷ []))
    (next_field s small [] 3 32 2 (omega arith)
    (next_field s small [] 3 30 2 (omega arith)
    (next_field s small [] 3 28 2 (omega arith)
    (next_field s small [] 3 24 4 (omega arith)
    (next_field s small [] 3 16 8 (omega arith)
    (next_field s small [] 3 8 8 (omega arith) (first_field s small [] 3 8 (omega arith) refl)))))))))))))))
