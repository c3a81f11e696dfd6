-- A report's fields, stored part after part over a block of zeros, are its bytes: "made up in one block of 68 zero bytes".
use mathlib.Core.Path.{◌≡◌, refl}
use mathlib.Core.List.{List}
use Prim.Native.Nat.{ℕ}
use lib.ListN.{replicate}
use Rattle.std.specs.Int.{w32, cast_unsigned}
use Rattle.codec.specs.LittleEndian.{le_bytes, stored, with_field}
use Rattle.wire.specs.SenderReport as S
use Rattle.wire.specs.ReceiverReport as R
use Rattle.wire.specs.declared.sender_report.SenderReport.{SenderReport}
use Rattle.wire.specs.declared.receiver_report.ReceiverReport.{ReceiverReport}

-- ---- a sender's report: the type and the counters, the times and the interval's bytes, the lifetime's totals
abbrev pub with_counters : SenderReport → List ℕ → List ℕ
with_counters r b = with_field (with_field (with_field b 0 1 1) 4 8 r.interval_start_counter) 12 8 r.interval_end_counter

abbrev pub with_times : SenderReport → List ℕ → List ℕ
with_times r b = with_field (with_field (with_field b 20 4 r.interval_start_timestamp) 24 4 r.interval_end_timestamp) 28 4 r.interval_bytes_sent

abbrev pub with_totals : SenderReport → List ℕ → List ℕ
with_totals r b = with_field (with_field b 32 8 r.cumulative_packets_sent) 40 8 r.cumulative_bytes_sent

-- ---- a receiver's report: the type and the counts, the echo and the bursts, the jitter and the delay trend, the interval
abbrev pub with_counts : ReceiverReport → List ℕ → List ℕ
with_counts r b =
    with_field (with_field (with_field (with_field b 0 1 2) 4 8 r.highest_counter) 12 8 r.cumulative_packets_recv) 20 8 r.cumulative_bytes_recv

abbrev pub with_bursts : ReceiverReport → List ℕ → List ℕ
with_bursts r b =
    with_field (with_field (with_field (with_field b 28 4 r.timestamp_echo) 32 2 r.dwell_time) 34 2 r.max_burst_loss) 36 2 r.mean_burst_loss

abbrev pub with_delay : ReceiverReport → List ℕ → List ℕ
with_delay r b =
    with_field (with_field (with_field (with_field b 40 4 r.jitter) 44 4 r.ecn_ce_count) 48 4 (cast_unsigned w32 r.owd_trend)) 52 4 r.burst_loss_count

abbrev pub with_interval : ReceiverReport → List ℕ → List ℕ
with_interval r b = with_field (with_field (with_field b 56 4 r.cumulative_reorder_count) 60 4 r.interval_packets_recv) 64 4 r.interval_bytes_recv

-- ---- over zeros
pub sender_block : (r : SenderReport) → with_totals r (with_times r (with_counters r (replicate 48 0))) ≡ S.encoded r
unfolding S.encoded with_field stored le_bytes
sender_block r = refl

pub receiver_block : (r : ReceiverReport) → with_interval r (with_delay r (with_bursts r (with_counts r (replicate 68 0)))) ≡ R.encoded r
unfolding R.encoded with_field stored le_bytes
receiver_block r = refl
