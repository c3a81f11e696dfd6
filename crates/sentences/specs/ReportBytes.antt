-- Document 01, "Report bytes": the two reports as lists of fields, in its order. Definitions only.
use Rattle.std.specs.Prelude.{ℕ, zero, suc, ◌+◌, ◌-◌, ◌/◌, ◌%◌, ◌^◌, List, [], ◌∷◌, ◌++◌, ℤ, pos, negsuc}
use Rattle.wire.specs.declared.sender_report.SenderReport.{SenderReport}
use Rattle.wire.specs.declared.receiver_report.ReceiverReport.{ReceiverReport}

-- a value, and how many bytes it has
pub record Field : Type 0 where
  pub width : ℕ
  pub value : ℕ

abbrev pub field : ℕ → ℕ → Field
field width value = record { width = width; value = value }

-- "Little-endian": n bytes of a number from byte k on, of which each counts 256 times what the one before it does
unfoldable pub bytes_from : ℕ → ℕ → ℕ → List ℕ
bytes_from k zero x = []
bytes_from k (suc n) x = (x / 256 ^ k % 256) ∷ bytes_from (k + 1) n x

-- the fields one after the other
unfoldable pub laid_out : List Field → List ℕ
laid_out [] = []
laid_out (f ∷ rest) = bytes_from 0 f.width f.value ++ laid_out rest

-- "signed": a number below 0 is that much less than 2^32
abbrev pub signed32 : ℤ → ℕ
signed32 (pos n) = n
signed32 (negsuc n) = 4294967296 - (n + 1)

-- "the type byte (0x01 ..) and three zeros", then "start counter 8, end counter 8, start time 4, end time 4, interval bytes 4, packets 8, bytes 8"
unfoldable pub sender_fields : SenderReport → List Field
sender_fields r =
    field 1 1
    ∷ field 3 0
    ∷ field 8 r.interval_start_counter
    ∷ field 8 r.interval_end_counter
    ∷ field 4 r.interval_start_timestamp
    ∷ field 4 r.interval_end_timestamp
    ∷ field 4 r.interval_bytes_sent
    ∷ field 8 r.cumulative_packets_sent
    ∷ field 8 r.cumulative_bytes_sent
    ∷ []

-- "(.. 0x02) and three zeros", then "highest 8, packets 8, bytes 8, echo 4, dwell 2, max burst 2, mean burst 2, reserved 2, jitter 4, ECN 4, trend 4 signed,
-- bursts 4, reorders 4, interval packets 4, interval bytes 4"
unfoldable pub receiver_fields : ReceiverReport → List Field
receiver_fields r =
    field 1 2
    ∷ field 3 0
    ∷ field 8 r.highest_counter
    ∷ field 8 r.cumulative_packets_recv
    ∷ field 8 r.cumulative_bytes_recv
    ∷ field 4 r.timestamp_echo
    ∷ field 2 r.dwell_time
    ∷ field 2 r.max_burst_loss
    ∷ field 2 r.mean_burst_loss
    ∷ field 2 0
    ∷ field 4 r.jitter
    ∷ field 4 r.ecn_ce_count
    ∷ field 4 (signed32 r.owd_trend)
    ∷ field 4 r.burst_loss_count
    ∷ field 4 r.cumulative_reorder_count
    ∷ field 4 r.interval_packets_recv
    ∷ field 4 r.interval_bytes_recv
    ∷ []
