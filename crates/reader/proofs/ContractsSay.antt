-- From the contracts themselves: what a held reader answers, and where it stands then, is what the function on a slice and a place answers at its payload and its position; what a function that makes a
-- reader answers is what the reader's own method answers there, with the place where it leaves the reader. `Learnt κs a r s` is the contract of a function, of the arguments a, the result r and the lent memory at exit s.
use Rattle.std.proofs.Common.{◌≡◌, ℕ, sym, ap, ap₂, ◌∙◌}
use mir.Syntax.{w64}
use mir.Val.{Fits}
use Rattle.codec.proofs.reader.read_u8.Reads as slice_read_u8
use Rattle.codec.proofs.reader.read_u16_le.Reads as slice_read_u16_le
use Rattle.codec.proofs.reader.read_u32_le.Reads as slice_read_u32_le
use Rattle.codec.proofs.reader.read_u64_le.Reads as slice_read_u64_le
use Rattle.codec.proofs.reader.read_array.Reads as slice_read_array
use Rattle.codec.proofs.reader.remaining.Reads as slice_remaining
use Rattle.wire.proofs.sender_report.decode_at.Reads as slice_decode_sender_report
use Rattle.wire.proofs.sender_report.SenderReport.decode.Reads as decoder_sender_report
use Rattle.wire.specs.SenderReport as SenderReportSpec
use Rattle.wire.proofs.receiver_report.decode_at.Reads as slice_decode_receiver_report
use Rattle.wire.proofs.receiver_report.ReceiverReport.decode.Reads as decoder_receiver_report
use Rattle.wire.specs.ReceiverReport as ReceiverReportSpec
use Rattle.reader.proofs.Reader.read_u8.Reads as held_read_u8
use Rattle.reader.proofs.Reader.read_u16_le.Reads as held_read_u16_le
use Rattle.reader.proofs.Reader.read_u32_le.Reads as held_read_u32_le
use Rattle.reader.proofs.Reader.read_u64_le.Reads as held_read_u64_le
use Rattle.reader.proofs.Reader.read_array.Reads as held_read_array
use Rattle.reader.proofs.Reader.remaining.Reads as held_remaining
use Rattle.reader.proofs.Reader.decode_sender_report.Reads as held_decode_sender_report
use Rattle.reader.proofs.Reader.decode_receiver_report.Reads as held_decode_receiver_report
use Rattle.reader.proofs.reads.read_u8_at.Reads as made_read_u8
use Rattle.reader.proofs.reads.read_u16_le_at.Reads as made_read_u16_le
use Rattle.reader.proofs.reads.read_u32_le_at.Reads as made_read_u32_le
use Rattle.reader.proofs.reads.read_u64_le_at.Reads as made_read_u64_le
use Rattle.reader.proofs.reads.read_array_at.Reads as made_read_array
use Rattle.reader.proofs.reads.remaining.Reads as made_remaining
use Rattle.reader.proofs.reports.decode_sender_report.Reads as made_decode_sender_report
use Rattle.reader.proofs.reports.decode_receiver_report.Reads as made_decode_receiver_report
use Rattle.reader.specs.Held.{place_of, moved_to}
use Rattle.reader.proofs.LentRead as Lent
use Rattle.reader.proofs.PassedOn as Passed
use Rattle.reader.proofs.MadeThenLent.{made}
use Rattle.reader.proofs.EachRead.{of_u8, of_u16, of_u32, of_u64, of_array}
use Rattle.reader.proofs.Questions.{bytes_left, sender_report, receiver_report, from_start}

-- ---- a lent reader: each `read_*` says what `LentRead` takes it to say
pub read_u8_says : (κs : _) (a : _) (r : _) (s : _) → held_read_u8.Learnt κs a r s → Lent.Says of_u8 a.0.now r s.0.now
read_u8_says κs a r s e = e

pub read_u16_le_says : (κs : _) (a : _) (r : _) (s : _) → held_read_u16_le.Learnt κs a r s → Lent.Says of_u16 a.0.now r s.0.now
read_u16_le_says κs a r s e = e

pub read_u32_le_says : (κs : _) (a : _) (r : _) (s : _) → held_read_u32_le.Learnt κs a r s → Lent.Says of_u32 a.0.now r s.0.now
read_u32_le_says κs a r s e = e

pub read_u64_le_says : (κs : _) (a : _) (r : _) (s : _) → held_read_u64_le.Learnt κs a r s → Lent.Says of_u64 a.0.now r s.0.now
read_u64_le_says κs a r s e = e

pub read_array_says : (n : ℕ) (fits : Fits w64 n) → (κs : _) (a : _) (r : _) (s : _) → held_read_array.Learnt n fits κs a r s → Lent.Says (of_array n) a.0.now r s.0.now
read_array_says n fits κs a r s e = e

-- ---- it answers, whole, what the function on a slice and a place answers at the reader's payload and position; the payload stays, and the place is the one that the function leaves
pub read_u8_as_function :
    (κs : _) (a : _) (r : _) (s : _) → held_read_u8.Learnt κs a r s →
    (κs' : _) (a' : _) (r' : _) (s' : _) → slice_read_u8.Learnt κs' a' r' s' →
    a'.0.now ≡ a.0.now.buf.now → a'.1.0.now ≡ place_of a.0.now → (r ≡ r') × (s.0.now ≡ moved_to a.0.now s'.1.0.now)
read_u8_as_function κs a r s e κs' a' r' s' e' payload place =
    (e.0 ∙ sym (e'.0 ∙ ap₂ of_u8.read payload place), e.1 ∙ ap (moved_to a.0.now) (sym (e'.1 ∙ ap₂ of_u8.after payload place)))

pub read_u16_le_as_function :
    (κs : _) (a : _) (r : _) (s : _) → held_read_u16_le.Learnt κs a r s →
    (κs' : _) (a' : _) (r' : _) (s' : _) → slice_read_u16_le.Learnt κs' a' r' s' →
    a'.0.now ≡ a.0.now.buf.now → a'.1.0.now ≡ place_of a.0.now → (r ≡ r') × (s.0.now ≡ moved_to a.0.now s'.1.0.now)
read_u16_le_as_function κs a r s e κs' a' r' s' e' payload place =
    (e.0 ∙ sym (e'.0 ∙ ap₂ of_u16.read payload place), e.1 ∙ ap (moved_to a.0.now) (sym (e'.1 ∙ ap₂ of_u16.after payload place)))

pub read_u32_le_as_function :
    (κs : _) (a : _) (r : _) (s : _) → held_read_u32_le.Learnt κs a r s →
    (κs' : _) (a' : _) (r' : _) (s' : _) → slice_read_u32_le.Learnt κs' a' r' s' →
    a'.0.now ≡ a.0.now.buf.now → a'.1.0.now ≡ place_of a.0.now → (r ≡ r') × (s.0.now ≡ moved_to a.0.now s'.1.0.now)
read_u32_le_as_function κs a r s e κs' a' r' s' e' payload place =
    (e.0 ∙ sym (e'.0 ∙ ap₂ of_u32.read payload place), e.1 ∙ ap (moved_to a.0.now) (sym (e'.1 ∙ ap₂ of_u32.after payload place)))

pub read_u64_le_as_function :
    (κs : _) (a : _) (r : _) (s : _) → held_read_u64_le.Learnt κs a r s →
    (κs' : _) (a' : _) (r' : _) (s' : _) → slice_read_u64_le.Learnt κs' a' r' s' →
    a'.0.now ≡ a.0.now.buf.now → a'.1.0.now ≡ place_of a.0.now → (r ≡ r') × (s.0.now ≡ moved_to a.0.now s'.1.0.now)
read_u64_le_as_function κs a r s e κs' a' r' s' e' payload place =
    (e.0 ∙ sym (e'.0 ∙ ap₂ of_u64.read payload place), e.1 ∙ ap (moved_to a.0.now) (sym (e'.1 ∙ ap₂ of_u64.after payload place)))

pub read_array_as_function : (n : ℕ) (fits : Fits w64 n) →
    (κs : _) (a : _) (r : _) (s : _) → held_read_array.Learnt n fits κs a r s →
    (κs' : _) (a' : _) (r' : _) (s' : _) → slice_read_array.Learnt n fits κs' a' r' s' →
    a'.0.now ≡ a.0.now.buf.now → a'.1.0.now ≡ place_of a.0.now → (r ≡ r') × (s.0.now ≡ moved_to a.0.now s'.1.0.now)
read_array_as_function n fits κs a r s e κs' a' r' s' e' payload place =
    let X = of_array n in
    (e.0 ∙ sym (e'.0 ∙ ap₂ X.read payload place), e.1 ∙ ap (moved_to a.0.now) (sym (e'.1 ∙ ap₂ X.after payload place)))

-- ---- a reader made at a position and lent to its read: the answer is what the read finds there with the place after it, and what the reader's own method answers of such a reader, with
-- ---- the place where it leaves it
pub read_u8_at_says : (κs : _) (a : _) (r : _) (s : _) → made_read_u8.Learnt κs a r s → r ≡ Lent.whole of_u8 (made a.0 a.1.0)
read_u8_at_says κs a r s e = e

pub read_u8_at_as_held :
    (κs : _) (a : _) (r : _) (s : _) → made_read_u8.Learnt κs a r s →
    (κs' : _) (a' : _) (r' : _) (s' : _) → held_read_u8.Learnt κs' a' r' s' →
    a'.0.now ≡ made a.0 a.1.0 → r ≡ (r', place_of s'.0.now)
read_u8_at_as_held κs a r s e κs' a' r' s' e' same =
    e ∙ sym (ap₂ (λ x h. (x, place_of h)) (e'.0 ∙ ap (Lent.found of_u8) same) (e'.1 ∙ ap (Lent.left of_u8) same))

pub read_u16_le_at_says : (κs : _) (a : _) (r : _) (s : _) → made_read_u16_le.Learnt κs a r s → r ≡ Lent.whole of_u16 (made a.0 a.1.0)
read_u16_le_at_says κs a r s e = e

pub read_u16_le_at_as_held :
    (κs : _) (a : _) (r : _) (s : _) → made_read_u16_le.Learnt κs a r s →
    (κs' : _) (a' : _) (r' : _) (s' : _) → held_read_u16_le.Learnt κs' a' r' s' →
    a'.0.now ≡ made a.0 a.1.0 → r ≡ (r', place_of s'.0.now)
read_u16_le_at_as_held κs a r s e κs' a' r' s' e' same =
    e ∙ sym (ap₂ (λ x h. (x, place_of h)) (e'.0 ∙ ap (Lent.found of_u16) same) (e'.1 ∙ ap (Lent.left of_u16) same))

pub read_u32_le_at_says : (κs : _) (a : _) (r : _) (s : _) → made_read_u32_le.Learnt κs a r s → r ≡ Lent.whole of_u32 (made a.0 a.1.0)
read_u32_le_at_says κs a r s e = e

pub read_u32_le_at_as_held :
    (κs : _) (a : _) (r : _) (s : _) → made_read_u32_le.Learnt κs a r s →
    (κs' : _) (a' : _) (r' : _) (s' : _) → held_read_u32_le.Learnt κs' a' r' s' →
    a'.0.now ≡ made a.0 a.1.0 → r ≡ (r', place_of s'.0.now)
read_u32_le_at_as_held κs a r s e κs' a' r' s' e' same =
    e ∙ sym (ap₂ (λ x h. (x, place_of h)) (e'.0 ∙ ap (Lent.found of_u32) same) (e'.1 ∙ ap (Lent.left of_u32) same))

pub read_u64_le_at_says : (κs : _) (a : _) (r : _) (s : _) → made_read_u64_le.Learnt κs a r s → r ≡ Lent.whole of_u64 (made a.0 a.1.0)
read_u64_le_at_says κs a r s e = e

pub read_u64_le_at_as_held :
    (κs : _) (a : _) (r : _) (s : _) → made_read_u64_le.Learnt κs a r s →
    (κs' : _) (a' : _) (r' : _) (s' : _) → held_read_u64_le.Learnt κs' a' r' s' →
    a'.0.now ≡ made a.0 a.1.0 → r ≡ (r', place_of s'.0.now)
read_u64_le_at_as_held κs a r s e κs' a' r' s' e' same =
    e ∙ sym (ap₂ (λ x h. (x, place_of h)) (e'.0 ∙ ap (Lent.found of_u64) same) (e'.1 ∙ ap (Lent.left of_u64) same))

pub read_array_at_says : (n : ℕ) (fits : Fits w64 n) → (κs : _) (a : _) (r : _) (s : _) → made_read_array.Learnt n fits κs a r s → r ≡ Lent.whole (of_array n) (made a.0 a.1.0)
read_array_at_says n fits κs a r s e = e

pub read_array_at_as_held : (n : ℕ) (fits : Fits w64 n) →
    (κs : _) (a : _) (r : _) (s : _) → made_read_array.Learnt n fits κs a r s →
    (κs' : _) (a' : _) (r' : _) (s' : _) → held_read_array.Learnt n fits κs' a' r' s' →
    a'.0.now ≡ made a.0 a.1.0 → r ≡ (r', place_of s'.0.now)
read_array_at_as_held n fits κs a r s e κs' a' r' s' e' same =
    e ∙ sym (ap₂ (λ x h. (x, place_of h)) (e'.0 ∙ ap (Lent.found (of_array n)) same) (e'.1 ∙ ap (Lent.left (of_array n)) same))

-- ---- a reader by value: each question says what `PassedOn` takes it to say, and answers what the function on a slice and a position does
pub remaining_says : (κs : _) (a : _) (r : _) (s : _) → held_remaining.Learnt κs a r s → Passed.Says bytes_left a.0 r
remaining_says κs a r s e = e

pub remaining_as_function :
    (κs : _) (a : _) (r : _) (s : _) → held_remaining.Learnt κs a r s →
    (κs' : _) (a' : _) (r' : _) (s' : _) → slice_remaining.Learnt κs' a' r' s' →
    a'.0.now ≡ a.0.buf.now → a'.1.0 ≡ a.0.at → r ≡ r'
remaining_as_function κs a r s e κs' a' r' s' e' payload place = e ∙ sym (e' ∙ ap₂ (λ x p. bytes_left.answer x p.pos) payload place)

pub decode_sender_report_says : (κs : _) (a : _) (r : _) (s : _) → held_decode_sender_report.Learnt κs a r s → Passed.Says sender_report a.0 r
decode_sender_report_says κs a r s e = e

pub decode_sender_report_as_function :
    (κs : _) (a : _) (r : _) (s : _) → held_decode_sender_report.Learnt κs a r s →
    (κs' : _) (a' : _) (r' : _) (s' : _) → slice_decode_sender_report.Learnt κs' a' r' s' →
    a'.0.now ≡ a.0.buf.now → a'.1.0 ≡ a.0.at.pos → r ≡ r'
decode_sender_report_as_function κs a r s e κs' a' r' s' e' payload pos = e ∙ sym (e' ∙ ap₂ (sender_report.answer) payload pos)

pub decode_receiver_report_says : (κs : _) (a : _) (r : _) (s : _) → held_decode_receiver_report.Learnt κs a r s → Passed.Says receiver_report a.0 r
decode_receiver_report_says κs a r s e = e

pub decode_receiver_report_as_function :
    (κs : _) (a : _) (r : _) (s : _) → held_decode_receiver_report.Learnt κs a r s →
    (κs' : _) (a' : _) (r' : _) (s' : _) → slice_decode_receiver_report.Learnt κs' a' r' s' →
    a'.0.now ≡ a.0.buf.now → a'.1.0 ≡ a.0.at.pos → r ≡ r'
decode_receiver_report_as_function κs a r s e κs' a' r' s' e' payload pos = e ∙ sym (e' ∙ ap₂ (receiver_report.answer) payload pos)

-- ---- a new reader that is asked: the answer from the payload's start, which is for a report the decoder's own
pub new_remaining_says : (κs : _) (a : _) (r : _) (s : _) → made_remaining.Learnt κs a r s → r ≡ bytes_left.answer a.0.now 0
new_remaining_says κs a r s e = e ∙ sym (from_start a.0.now)

pub new_remaining_as_held :
    (κs : _) (a : _) (r : _) (s : _) → made_remaining.Learnt κs a r s →
    (κs' : _) (a' : _) (r' : _) (s' : _) → held_remaining.Learnt κs' a' r' s' →
    a'.0.buf.now ≡ a.0.now → a'.0.at.pos ≡ 0 → r ≡ r'
new_remaining_as_held κs a r s e κs' a' r' s' e' payload pos = new_remaining_says κs a r s e ∙ sym (e' ∙ ap₂ (bytes_left.answer) payload pos)

pub new_decode_sender_report_says : (κs : _) (a : _) (r : _) (s : _) → made_decode_sender_report.Learnt κs a r s → r ≡ sender_report.answer a.0.now 0
unfolding SenderReportSpec.decoded SenderReportSpec.decoded_at
new_decode_sender_report_says κs a r s e = e

pub new_decode_sender_report_as_held :
    (κs : _) (a : _) (r : _) (s : _) → made_decode_sender_report.Learnt κs a r s →
    (κs' : _) (a' : _) (r' : _) (s' : _) → held_decode_sender_report.Learnt κs' a' r' s' →
    a'.0.buf.now ≡ a.0.now → a'.0.at.pos ≡ 0 → r ≡ r'
new_decode_sender_report_as_held κs a r s e κs' a' r' s' e' payload pos = new_decode_sender_report_says κs a r s e ∙ sym (e' ∙ ap₂ (sender_report.answer) payload pos)

pub new_decode_sender_report_as_decoder :
    (κs : _) (a : _) (r : _) (s : _) → made_decode_sender_report.Learnt κs a r s →
    (κs' : _) (a' : _) (r' : _) (s' : _) → decoder_sender_report.Learnt κs' a' r' s' →
    a'.0.now ≡ a.0.now → r ≡ r'
new_decode_sender_report_as_decoder κs a r s e κs' a' r' s' e' payload = e ∙ sym (e' ∙ ap (λ x. SenderReportSpec.taken (SenderReportSpec.decoded x)) payload)

pub new_decode_receiver_report_says : (κs : _) (a : _) (r : _) (s : _) → made_decode_receiver_report.Learnt κs a r s → r ≡ receiver_report.answer a.0.now 0
unfolding ReceiverReportSpec.decoded ReceiverReportSpec.decoded_at
new_decode_receiver_report_says κs a r s e = e

pub new_decode_receiver_report_as_held :
    (κs : _) (a : _) (r : _) (s : _) → made_decode_receiver_report.Learnt κs a r s →
    (κs' : _) (a' : _) (r' : _) (s' : _) → held_decode_receiver_report.Learnt κs' a' r' s' →
    a'.0.buf.now ≡ a.0.now → a'.0.at.pos ≡ 0 → r ≡ r'
new_decode_receiver_report_as_held κs a r s e κs' a' r' s' e' payload pos = new_decode_receiver_report_says κs a r s e ∙ sym (e' ∙ ap₂ (receiver_report.answer) payload pos)

pub new_decode_receiver_report_as_decoder :
    (κs : _) (a : _) (r : _) (s : _) → made_decode_receiver_report.Learnt κs a r s →
    (κs' : _) (a' : _) (r' : _) (s' : _) → decoder_receiver_report.Learnt κs' a' r' s' →
    a'.0.now ≡ a.0.now → r ≡ r'
new_decode_receiver_report_as_decoder κs a r s e κs' a' r' s' e' payload = e ∙ sym (e' ∙ ap (λ x. ReceiverReportSpec.taken (ReceiverReportSpec.decoded x)) payload)
