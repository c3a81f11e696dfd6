-- The two answers of writing a message and of taking a payload.
use Prim.Native.Nat.{ℕ, ◌+◌, ◌-◌, ◌≤◌, ◌<◌}
use mathlib.Core.Path.{◌≡◌, sym, ap, ◌∙◌}
use mathlib.Core.List.{List, ◌++◌}
use lib.ListN.{length, get_or, take, drop, length-append, length-drop, get_or-append}
use lib.Seq.{take-length, get_or-drop}
use native.Mathlib.Omega.{arith}
use borrow.Author.Tests.{le-leb, lt-leb}
use Rattle.std.specs.Prelude.{Result, Ok, Err}
use Rattle.std.specs.Int.{w16, to_le_bytes}
use Rattle.refusals.specs.Answers.{answered, passed, numbered}
use Rattle.refusals.specs.declared.refusal.Refusal.{Refusal}
use Rattle.refusals.specs.declared.refusal.Refusal.TheVariants.{OutputBuffer}
use Rattle.codec.specs.LittleEndian.{le_bytes}
use Rattle.codec.proofs.Parts.{bytes_16}
use Rattle.wire.specs.SenderReport as Sender
use Rattle.wire.specs.ReceiverReport as Receiver
use Rattle.wire.specs.PathMtu as Notification
use Rattle.wire.specs.declared.sender_report.SenderReport.{SenderReport}
use Rattle.wire.specs.declared.receiver_report.ReceiverReport.{ReceiverReport}
use Rattle.wire.specs.declared.path_mtu.PathMtuNotification.{PathMtuNotification}
use Rattle.wire.specs.Payload.{room_answer, written_into, AlikeOn}

-- ---- the answer: nothing, or the refusal 6
pub room : (n : ℕ) (out : List ℕ) → n ≤ length out → ◌≡◌ {A = Result (Unit {0}) Refusal} (Ok tt) (passed (room_answer n out))
unfolding room_answer answered
room n out h = simp (le-leb _ _ h)

pub no_room : (n : ℕ) (out : List ℕ) → length out < n → ◌≡◌ {A = Result (Unit {0}) Refusal} (Err OutputBuffer) (passed (room_answer n out))
unfolding room_answer answered numbered
no_room n out h = simp (lt-leb _ _ h)

-- ---- the buffer after
pub untouched : (out message : List ℕ) → length out < length message → out ≡ written_into out message
unfolding written_into
untouched out message h = simp (lt-leb _ _ h)

pub written : (out message : List ℕ) → length message ≤ length out → message ++ drop (length message) out ≡ written_into out message
unfolding written_into
written out message h = simp (le-leb _ _ h)

-- a block that holds the message, copied over the buffer's first bytes
pub copied : (block out message : List ℕ) → block ≡ message → length message ≤ length out → take (length block) block ++ drop (length block) out ≡ written_into out message
copied block out message e h = rw (e, take-length message) (written out message h)

-- ---- a sender's report of 48 bytes
module _ (out : List ℕ) where
  pub sender_room : 48 ≤ length out → ◌≡◌ {A = Result (Unit {0}) Refusal} (Ok tt) (passed (Sender.encode_answer out))
  sender_room h = room 48 out h

  pub sender_no_room : length out < 48 → ◌≡◌ {A = Result (Unit {0}) Refusal} (Err OutputBuffer) (passed (Sender.encode_answer out))
  sender_no_room h = no_room 48 out h

  pub sender_written : (r : SenderReport) (block : List ℕ) → block ≡ Sender.encoded r → 48 ≤ length out → block ++ drop 48 out ≡ Sender.encoded_into out r
  unfolding Sender.encoded le_bytes
  sender_written r block e h = rw e (written out (Sender.encoded r) h)

  pub sender_unwritten : (r : SenderReport) → length out < 48 → out ≡ Sender.encoded_into out r
  unfolding Sender.encoded le_bytes
  sender_unwritten r h = untouched out (Sender.encoded r) h

-- ---- a receiver's report of 68 bytes
module _ (out : List ℕ) where
  pub receiver_room : 68 ≤ length out → ◌≡◌ {A = Result (Unit {0}) Refusal} (Ok tt) (passed (Receiver.encode_answer out))
  receiver_room h = room 68 out h

  pub receiver_no_room : length out < 68 → ◌≡◌ {A = Result (Unit {0}) Refusal} (Err OutputBuffer) (passed (Receiver.encode_answer out))
  receiver_no_room h = no_room 68 out h

  pub receiver_written : (r : ReceiverReport) (block : List ℕ) → block ≡ Receiver.encoded r → 68 ≤ length out → block ++ drop 68 out ≡ Receiver.encoded_into out r
  unfolding Receiver.encoded le_bytes
  receiver_written r block e h = rw e (written out (Receiver.encoded r) h)

  pub receiver_unwritten : (r : ReceiverReport) → length out < 68 → out ≡ Receiver.encoded_into out r
  unfolding Receiver.encoded le_bytes
  receiver_unwritten r h = untouched out (Receiver.encoded r) h

-- ---- a notification of 2 bytes
module _ (out : List ℕ) where
  pub notification_room : 2 ≤ length out → ◌≡◌ {A = Result (Unit {0}) Refusal} (Ok tt) (passed (Notification.encode_answer out))
  notification_room h = room 2 out h

  pub notification_no_room : length out < 2 → ◌≡◌ {A = Result (Unit {0}) Refusal} (Err OutputBuffer) (passed (Notification.encode_answer out))
  notification_no_room h = no_room 2 out h

  pub notification_written : (n : PathMtuNotification) → 2 ≤ length out → to_le_bytes w16 n.path_mtu ++ drop 2 out ≡ Notification.encoded_into out n
  unfolding Notification.encoded le_bytes
  notification_written n h = rw (bytes_16 n.path_mtu) (written out (Notification.encoded n) h)

  pub notification_unwritten : (n : PathMtuNotification) → length out < 2 → out ≡ Notification.encoded_into out n
  unfolding Notification.encoded le_bytes
  notification_unwritten n h = untouched out (Notification.encoded n) h

-- ---- the payload of a message in a buffer: its own bytes, and what the buffer held past them
pub payload_alike : (out message : List ℕ) (from : ℕ) → length message ≤ length out → AlikeOn (drop 1 message) (drop 1 (written_into out message)) from (length message - 1)
payload_alike out message from h i a b =
    get_or-drop 1 message i 0
    ∙ sym (get_or-append message (drop (length message) out) 0 (1 + i) (omega arith))
    ∙ ap (λ (l : List ℕ). get_or l (1 + i) 0) (written out message h)
    ∙ sym (get_or-drop 1 (written_into out message) i 0)

pub payload_length : (out message : List ℕ) → length message ≤ length out → length (drop 1 (written_into out message)) ≡ length out - 1
payload_length out message h =
    let l : length (message ++ drop (length message) out) ≡ length out =
    length-append message (drop (length message) out) ∙ (let d = length-drop (length message) out in omega arith) in
    length-drop 1 (written_into out message) ∙ ap (λ (n : ℕ). n - 1) (sym (ap length (written out message h)) ∙ l)
