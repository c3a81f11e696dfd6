-- A payload check answers as the decoder of its report does: the same status, and beside a 7 the same two lengths.
use Prim.Native.Nat.{ℕ}
use mathlib.Core.Path.{◌≡◌, refl}
use mathlib.Core.List.{List}
use Rattle.codec.specs.Reading.{Length, length_answer, values_of, by_length}
use Rattle.std.specs.Prelude.{Ok, Err}
use Rattle.wire.specs.SenderReport as Sender
use Rattle.wire.specs.ReceiverReport as Receiver
use Rattle.siwolkert.specs.PayloadCheck.{check_status, check_needed, check_given}

-- the three answers, where the caller had 0 in both lengths
abbrev Same : ℕ → List ℕ → ℕ → ℕ → ℕ → Type 0
Same n s refusal needed given = (check_status n s ≡ refusal) × (check_needed n s 0 ≡ needed) × (check_given n s 0 ≡ given)

-- an answer has no lengths where the payload is long enough
as_valued : (n : ℕ) (s : List ℕ) → let v = values_of (length_answer s 0 n) in Same n s v.refusal v.needed v.given
unfolding check_status check_needed check_given values_of by_length
as_valued n s = go (length_answer s 0 n)
  where
    go : (answer : Length) → let v = values_of answer in (v.refusal ≡ v.refusal) × (by_length answer 0 v.needed ≡ v.needed) × (by_length answer 0 v.given ≡ v.given)
    go (Ok enough) = (refl, refl, refl)
    go (Err short) = (refl, refl, refl)

pub sender_as_decoded : (s : List ℕ) → Same 47 s (Sender.decoded s).refusal (Sender.decoded s).needed (Sender.decoded s).given
unfolding Sender.decoded Sender.decoded_by
sender_as_decoded s = as_valued 47 s

pub receiver_as_decoded : (s : List ℕ) → Same 67 s (Receiver.decoded s).refusal (Receiver.decoded s).needed (Receiver.decoded s).given
unfolding Receiver.decoded Receiver.decoded_by
receiver_as_decoded s = as_valued 67 s
