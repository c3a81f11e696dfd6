-- The bytes that `NoCreep` reads a report's jitter from are those of the code: `encode` leaves and answers, and `decode` answers, what the statement cites.
use mathlib.Core.Path.{◌≡◌, ◌∙◌, ap}
use lib.ListN.{drop}
use Rattle.refusals.specs.Answers.{passed}
use Rattle.wire.specs.ReceiverReport.{encode_answer, encoded_into, decoded, taken}
use Rattle.wire.proofs.receiver_report.ReceiverReport.encode.Reads as encode
use Rattle.wire.proofs.receiver_report.ReceiverReport.decode.Reads as decode

-- the status of `encode`, by the buffer at entry
pub encode_row : (κs : _) (a : _) (r : _) (s : _) → encode.Learnt κs a r s → r ≡ passed (encode_answer a.1.0.now)
encode_row κs a r s e = e.0

-- the buffer at exit
pub encoded_row : (κs : _) (a : _) (r : _) (s : _) → encode.Learnt κs a r s → s.1.0.now ≡ encoded_into a.1.0.now a.0
encoded_row κs a r s e = e.1

pub decode_row : (κs : _) (a : _) (r : _) (s : _) → decode.Learnt κs a r s → r ≡ taken (decoded a.0.now)
decode_row κs a r s e = e

-- `decode` on what `encode` left, after the type byte
pub decode_encoded_row : (κs : _) (a : _) (r : _) (s : _) (κs' : _) (a' : _) (r' : _) (s' : _) → encode.Learnt κs a r s → decode.Learnt κs' a' r' s' →
    a'.0.now ≡ drop 1 s.1.0.now → r' ≡ taken (decoded (drop 1 (encoded_into a.1.0.now a.0)))
decode_encoded_row κs a r s κs' a' r' s' e e' same = e' ∙ ap (λ x. taken (decoded x)) same ∙ λ i. taken (decoded (drop 1 (e.1 i)))
