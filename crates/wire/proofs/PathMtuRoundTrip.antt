-- Encoding and decoding a path MTU notification undo each other.
use Prim.Native.Nat.{ℕ, ◌≤◌, ◌<◌, ◌^◌}
use mathlib.Core.Path.{◌≡◌, refl, ap}
use mathlib.Core.List.{List, []}
use lib.ListN.{length, take}
use Rattle.codec.specs.LittleEndian.{le_at, le_bytes, field_at}
use Rattle.codec.specs.Reading.{length_answer}
use Rattle.codec.proofs.Widths.{read_bytes_lem}
use Rattle.wire.specs.Payload.{Bytes}
use Rattle.wire.specs.PathMtu.{notification, encoded, accepted, decoded}
use Rattle.wire.proofs.Fields.{first_field}

-- DECODING UNDOES ENCODING, for every notification
pub round_trip : (mtu : ℕ) → mtu < 2 ^ 16 → decoded (encoded (notification mtu)) ≡ accepted (notification mtu)
unfolding decoded length_answer encoded field_at le_at le_bytes
round_trip mtu h = ap (λ (x : ℕ). accepted (notification x)) (read_bytes_lem 2 mtu h)

-- ENCODING UNDOES DECODING: the field's bytes are the body's
pub fields_back : (s : List ℕ) → Bytes s → 2 ≤ length s → encoded (notification (field_at s 0 2)) ≡ take 2 s
unfolding encoded
fields_back s small h = first_field s small [] {bytes = []} 0 2 h refl
