-- ReceiverReport, 68 bytes (document 01, "Report bytes"): highest 8, packets 8, bytes 8, echo 4, dwell 2, max burst 2, mean burst 2, reserved 2, jitter 4,
-- ECN 4, trend 4 signed, bursts 4, reorders 4, interval packets 4, interval bytes 4. Definitions only.
use Rattle.std.specs.Prelude.{ℕ, ◌^◌, ◌<◌, List, [], ◌∷◌, ◌++◌, pos, drop, Result, Ok}
use Rattle.std.specs.Int.{w32}
use Rattle.std.proofs.Common.{SFits, to_z, of_z}
use Rattle.codec.specs.LittleEndian.{le_bytes, field_at}
use Rattle.codec.specs.Reading.{Length, length_answer, values_of, by_length}
use Rattle.codec.specs.declared.reader.TooShort.{TooShort}
use Rattle.wire.specs.Payload.{room_answer, written_into, message_taken}
use Rattle.wire.specs.declared.receiver_report.ReceiverReport.{ReceiverReport}

-- the bytes: the type, three zeros, the fields in order with two zeros before the jitter
unfoldable pub encoded : ReceiverReport → List ℕ
encoded r =
    2 ∷ 0 ∷ 0 ∷ 0 ∷ []
    ++ le_bytes 8 r.highest_counter
    ++ le_bytes 8 r.cumulative_packets_recv
    ++ le_bytes 8 r.cumulative_bytes_recv
    ++ le_bytes 4 r.timestamp_echo
    ++ le_bytes 2 r.dwell_time
    ++ le_bytes 2 r.max_burst_loss
    ++ le_bytes 2 r.mean_burst_loss
    ++ (0 ∷ 0 ∷ [])
    ++ le_bytes 4 r.jitter
    ++ le_bytes 4 r.ecn_ce_count
    ++ le_bytes 4 (of_z w32 r.owd_trend)
    ++ le_bytes 4 r.burst_loss_count
    ++ le_bytes 4 r.cumulative_reorder_count
    ++ le_bytes 4 r.interval_packets_recv
    ++ le_bytes 4 r.interval_bytes_recv

-- document 01, question 6: 68 bytes of room
abbrev pub encode_answer : List ℕ → ℕ
encode_answer out = room_answer 68 out

-- the buffer after it is encoded there
abbrev pub encoded_into : List ℕ → ReceiverReport → List ℕ
encoded_into out r = written_into out (encoded r)

-- the fields of a payload that is long enough: it lacks the type byte, so each stands one place lower; 37 and 38 are reserved
unfoldable pub report_in : List ℕ → ReceiverReport
report_in s = record {
  highest_counter = field_at s 3 8;
  cumulative_packets_recv = field_at s 11 8;
  cumulative_bytes_recv = field_at s 19 8;
  timestamp_echo = field_at s 27 4;
  dwell_time = field_at s 31 2;
  max_burst_loss = field_at s 33 2;
  mean_burst_loss = field_at s 35 2;
  jitter = field_at s 39 4;
  ecn_ce_count = field_at s 43 4;
  owd_trend = to_z w32 (field_at s 47 4);
  burst_loss_count = field_at s 51 4;
  cumulative_reorder_count = field_at s 55 4;
  interval_packets_recv = field_at s 59 4;
  interval_bytes_recv = field_at s 63 4;
}

-- every field 0
unfoldable pub no_report : ReceiverReport
no_report = record {
  highest_counter = 0;
  cumulative_packets_recv = 0;
  cumulative_bytes_recv = 0;
  timestamp_echo = 0;
  dwell_time = 0;
  max_burst_loss = 0;
  mean_burst_loss = 0;
  jitter = 0;
  ecn_ce_count = 0;
  owd_trend = pos 0;
  burst_loss_count = 0;
  cumulative_reorder_count = 0;
  interval_packets_recv = 0;
  interval_bytes_recv = 0;
}

-- document 01's number, the two lengths that 7 returns beside it, and what is decoded
pub record ReceiverReportDecoded : Type 0 where
  pub refusal : ℕ
  pub needed : ℕ
  pub given : ℕ
  pub report : ReceiverReport

-- the same as a result
abbrev pub taken : ReceiverReportDecoded → Result ReceiverReport TooShort
taken d = message_taken d.refusal d.needed d.given d.report

-- document 01, question 7: the number and the lengths of a length answer, with the report where the payload is long enough, else none
unfoldable pub decoded_by : Length → ReceiverReport → ReceiverReportDecoded
decoded_by answer r = record {
  refusal = (values_of answer).refusal;
  needed = (values_of answer).needed;
  given = (values_of answer).given;
  report = by_length answer r no_report;
}

-- the report, and nothing refused
abbrev pub accepted : ReceiverReport → ReceiverReportDecoded
accepted r = decoded_by (Ok tt) r

-- a payload of at least 67 bytes is read; anything past them is ignored
unfoldable pub decoded : List ℕ → ReceiverReportDecoded
decoded s = decoded_by (length_answer s 0 67) (report_in s)

-- the same from a position on: the needed length is counted from the payload's start
unfoldable pub decoded_at : List ℕ → ℕ → ReceiverReportDecoded
decoded_at s at = decoded_by (length_answer s at 67) (report_in (drop at s))

-- what every ReceiverReport of the code keeps: each field fits its type
pub record Fits (r : ReceiverReport) : Type 0 where
  pub highest_counter : r.highest_counter < 2 ^ 64
  pub cumulative_packets_recv : r.cumulative_packets_recv < 2 ^ 64
  pub cumulative_bytes_recv : r.cumulative_bytes_recv < 2 ^ 64
  pub timestamp_echo : r.timestamp_echo < 2 ^ 32
  pub dwell_time : r.dwell_time < 2 ^ 16
  pub max_burst_loss : r.max_burst_loss < 2 ^ 16
  pub mean_burst_loss : r.mean_burst_loss < 2 ^ 16
  pub jitter : r.jitter < 2 ^ 32
  pub ecn_ce_count : r.ecn_ce_count < 2 ^ 32
  pub owd_trend : SFits w32 r.owd_trend
  pub burst_loss_count : r.burst_loss_count < 2 ^ 32
  pub cumulative_reorder_count : r.cumulative_reorder_count < 2 ^ 32
  pub interval_packets_recv : r.interval_packets_recv < 2 ^ 32
  pub interval_bytes_recv : r.interval_bytes_recv < 2 ^ 32
