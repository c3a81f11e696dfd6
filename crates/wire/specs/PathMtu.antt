-- PathMtuNotification, 2 bytes (mmp/wire.rs; document 01, questions 6 and 7 at its length). Definitions only.
use Rattle.std.specs.Prelude.{ℕ, List, Result, Ok}
use Rattle.codec.specs.LittleEndian.{le_bytes, field_at}
use Rattle.codec.specs.Reading.{Length, length_answer, values_of, by_length}
use Rattle.codec.specs.declared.reader.TooShort.{TooShort}
use Rattle.wire.specs.Payload.{room_answer, written_into, message_taken}
use Rattle.wire.specs.declared.path_mtu.PathMtuNotification.{PathMtuNotification}

-- the notification of an MTU
abbrev pub notification : ℕ → PathMtuNotification
notification mtu = record { path_mtu = mtu }

-- the bytes: the MTU alone, little-endian
unfoldable pub encoded : PathMtuNotification → List ℕ
encoded n = le_bytes 2 n.path_mtu

-- document 01, question 6: 2 bytes of room
abbrev pub encode_answer : List ℕ → ℕ
encode_answer out = room_answer 2 out

-- the buffer after it is encoded there
abbrev pub encoded_into : List ℕ → PathMtuNotification → List ℕ
encoded_into out n = written_into out (encoded n)

-- document 01's number, the two lengths that 7 returns beside it, and what is decoded
pub record PathMtuDecoded : Type 0 where
  pub refusal : ℕ
  pub needed : ℕ
  pub given : ℕ
  pub notification : PathMtuNotification

-- the same as a result
abbrev pub taken : PathMtuDecoded → Result PathMtuNotification TooShort
taken d = message_taken d.refusal d.needed d.given d.notification

-- document 01, question 7: the number and the lengths of a length answer, with the notification where the body is long enough, else one of 0
unfoldable pub decoded_by : Length → PathMtuNotification → PathMtuDecoded
decoded_by answer n = record {
  refusal = (values_of answer).refusal;
  needed = (values_of answer).needed;
  given = (values_of answer).given;
  notification = by_length answer n (notification 0);
}

-- the notification, and nothing refused
abbrev pub accepted : PathMtuNotification → PathMtuDecoded
accepted n = decoded_by (Ok tt) n

-- a body of at least 2 bytes is read; anything past them is ignored
unfoldable pub decoded : List ℕ → PathMtuDecoded
decoded s = decoded_by (length_answer s 0 2) (notification (field_at s 0 2))
