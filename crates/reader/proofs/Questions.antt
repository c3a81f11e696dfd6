-- What a reader by value is asked, each as `PassedOn` takes it: how many bytes are left, and for the report that stands at its position.
use Rattle.std.proofs.Common.{◌≡◌, ℕ, ◌-◌, List, length, arith}
use Rattle.std.specs.Prelude.{Result}
use Rattle.codec.specs.declared.reader.TooShort.{TooShort}
use Rattle.wire.specs.declared.sender_report.SenderReport.{SenderReport}
use Rattle.wire.specs.declared.receiver_report.ReceiverReport.{ReceiverReport}
use Rattle.wire.specs.SenderReport as SenderSpec
use Rattle.wire.specs.ReceiverReport as ReceiverSpec
use Rattle.reader.proofs.PassedOn.{Question}

abbrev pub bytes_left : Question
bytes_left = record { Answer = ℕ; answer = λ s pos. length s - pos }

abbrev pub sender_report : Question
sender_report = record { Answer = Result SenderReport TooShort; answer = λ s pos. SenderSpec.taken (SenderSpec.decoded_at s pos) }

abbrev pub receiver_report : Question
receiver_report = record { Answer = Result ReceiverReport TooShort; answer = λ s pos. ReceiverSpec.taken (ReceiverSpec.decoded_at s pos) }

-- from its start on a payload has all its bytes left
pub from_start : (s : List ℕ) → bytes_left.answer s 0 ≡ length s
from_start s = omega arith
