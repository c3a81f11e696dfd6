-- What is decoded, as a result, by the length answer.
use Prim.Native.Nat.{ℕ}
use mathlib.Core.Path.{◌≡◌, refl, ap}
use mathlib.Core.Bool.{Bool, true, false, cond}
use mathlib.Core.List.{List}
use lib.ListN.{length, drop}
use Rattle.std.specs.Prelude.{Result, Ok, Err}
use Rattle.codec.specs.LittleEndian.{field_at}
use Rattle.codec.specs.Reading.{Length, within, needed_for, too_short, length_answer, read_as, values_of, by_length}
use Rattle.codec.specs.declared.reader.TooShort.{TooShort}
use Rattle.wire.specs.Payload.{message_taken}
use Rattle.wire.specs.SenderReport as Sender
use Rattle.wire.specs.ReceiverReport as Receiver
use Rattle.wire.specs.PathMtu as PathMtu
use Rattle.wire.specs.declared.sender_report.SenderReport.{SenderReport}
use Rattle.wire.specs.declared.receiver_report.ReceiverReport.{ReceiverReport}
use Rattle.wire.specs.declared.path_mtu.PathMtuNotification.{PathMtuNotification}

-- ---- each by its length answer
sender_by : (a : Length) (r : SenderReport) → Sender.taken (Sender.decoded_by a r) ≡ read_as a r
unfolding Sender.decoded_by message_taken values_of by_length read_as
sender_by (Ok enough) r = refl
sender_by (Err short) r = refl

receiver_by : (a : Length) (r : ReceiverReport) → Receiver.taken (Receiver.decoded_by a r) ≡ read_as a r
unfolding Receiver.decoded_by message_taken values_of by_length read_as
receiver_by (Ok enough) r = refl
receiver_by (Err short) r = refl

notification_by : (a : Length) (n : PathMtuNotification) → PathMtu.taken (PathMtu.decoded_by a n) ≡ read_as a n
unfolding PathMtu.decoded_by message_taken values_of by_length read_as
notification_by (Ok enough) n = refl
notification_by (Err short) n = refl

-- the two lengths of a payload that is too short
short_is : (s : List ℕ) (pos n : ℕ) (k : TooShort) → length_answer s pos n ≡ Err k → k ≡ too_short s pos n
unfolding length_answer
short_is s pos n k h = go (within s pos n) h
  where
    go : (b : Bool) → ◌≡◌ {A = Length} (cond b (Ok tt) (Err (too_short s pos n))) (Err k) → k ≡ too_short s pos n
    go true h = absurd cc
    go false h = cc

module _ (s : List ℕ) (pos : ℕ) where
  -- the payload from the position on, as the code takes it
  pub sender_read : (r : SenderReport) → length_answer s pos 47 ≡ Ok tt → r ≡ Sender.report_in (drop pos s) →
      ◌≡◌ {A = Result SenderReport TooShort} (Ok r) (Sender.taken (Sender.decoded_at s pos))
  unfolding Sender.decoded_at read_as
  sender_read r e h =
      rw (sender_by (length_answer s pos 47) (Sender.report_in (drop pos s)), e) (ap Ok h)

  pub sender_short : (k : TooShort) → length_answer s pos 47 ≡ Err k → ◌≡◌ {A = Result SenderReport TooShort} (Err (too_short s pos 47)) (Sender.taken (Sender.decoded_at s pos))
  unfolding Sender.decoded_at read_as
  sender_short k e = rw (← short_is s pos 47 k e, sender_by (length_answer s pos 47) (Sender.report_in (drop pos s)), e) refl

  pub receiver_read : (r : ReceiverReport) → length_answer s pos 67 ≡ Ok tt → r ≡ Receiver.report_in (drop pos s) →
      ◌≡◌ {A = Result ReceiverReport TooShort} (Ok r) (Receiver.taken (Receiver.decoded_at s pos))
  unfolding Receiver.decoded_at read_as
  receiver_read r e h =
      rw (receiver_by (length_answer s pos 67) (Receiver.report_in (drop pos s)), e) (ap Ok h)

  pub receiver_short : (k : TooShort) → length_answer s pos 67 ≡ Err k → ◌≡◌ {A = Result ReceiverReport TooShort} (Err (too_short s pos 67)) (Receiver.taken (Receiver.decoded_at s pos))
  unfolding Receiver.decoded_at read_as
  receiver_short k e = rw (← short_is s pos 67 k e, receiver_by (length_answer s pos 67) (Receiver.report_in (drop pos s)), e) refl

-- ---- the one field of a notification
module _ (s : List ℕ) where
  pub notification_read : length_answer s 0 2 ≡ Ok tt →
      ◌≡◌ {A = Result PathMtuNotification TooShort} (Ok (PathMtu.notification (field_at s 0 2))) (PathMtu.taken (PathMtu.decoded s))
  unfolding PathMtu.decoded read_as
  notification_read e =
      rw (notification_by (length_answer s 0 2) (PathMtu.notification (field_at s 0 2)), e) refl

  pub notification_short : (k : TooShort) → length_answer s 0 2 ≡ Err k →
      ◌≡◌ {A = Result PathMtuNotification TooShort} (Err (record { needed = 2; given = length s })) (PathMtu.taken (PathMtu.decoded s))
  unfolding PathMtu.decoded read_as needed_for
  notification_short k e = rw (← short_is s 0 2 k e, notification_by (length_answer s 0 2) (PathMtu.notification (field_at s 0 2)), e) refl
