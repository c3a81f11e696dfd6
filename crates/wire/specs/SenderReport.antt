-- SenderReport, 48 bytes (document 01, "Report bytes"): start counter 8, end counter 8, start time 4, end time 4, interval bytes 4, packets 8, bytes 8. Definitions only.
use Rattle.std.specs.Prelude.{ℕ, ◌^◌, ◌<◌, List, [], ◌∷◌, ◌++◌, drop, Result, Ok}
use Rattle.codec.specs.LittleEndian.{le_bytes, field_at}
use Rattle.codec.specs.Reading.{Length, length_answer, values_of, by_length}
use Rattle.codec.specs.declared.reader.TooShort.{TooShort}
use Rattle.wire.specs.Payload.{room_answer, written_into, message_taken}
use Rattle.wire.specs.declared.sender_report.SenderReport.{SenderReport}

-- the bytes: the type, three zeros, the fields in order
unfoldable pub encoded : SenderReport → List ℕ
encoded r =
    1 ∷ 0 ∷ 0 ∷ 0 ∷ []
    ++ le_bytes 8 r.interval_start_counter
    ++ le_bytes 8 r.interval_end_counter
    ++ le_bytes 4 r.interval_start_timestamp
    ++ le_bytes 4 r.interval_end_timestamp
    ++ le_bytes 4 r.interval_bytes_sent
    ++ le_bytes 8 r.cumulative_packets_sent
    ++ le_bytes 8 r.cumulative_bytes_sent

-- document 01, question 6: 48 bytes of room
abbrev pub encode_answer : List ℕ → ℕ
encode_answer out = room_answer 48 out

-- the buffer after it is encoded there
abbrev pub encoded_into : List ℕ → SenderReport → List ℕ
encoded_into out r = written_into out (encoded r)

-- the fields of a payload that is long enough: it lacks the type byte, so each stands one place lower
unfoldable pub report_in : List ℕ → SenderReport
report_in s = record {
  interval_start_counter = field_at s 3 8;
  interval_end_counter = field_at s 11 8;
  interval_start_timestamp = field_at s 19 4;
  interval_end_timestamp = field_at s 23 4;
  interval_bytes_sent = field_at s 27 4;
  cumulative_packets_sent = field_at s 31 8;
  cumulative_bytes_sent = field_at s 39 8;
}

-- every field 0
unfoldable pub no_report : SenderReport
no_report = record {
  interval_start_counter = 0;
  interval_end_counter = 0;
  interval_start_timestamp = 0;
  interval_end_timestamp = 0;
  interval_bytes_sent = 0;
  cumulative_packets_sent = 0;
  cumulative_bytes_sent = 0;
}

-- document 01's number, the two lengths that 7 returns beside it, and what is decoded
pub record SenderReportDecoded : Type 0 where
  pub refusal : ℕ
  pub needed : ℕ
  pub given : ℕ
  pub report : SenderReport

-- the same as a result
abbrev pub taken : SenderReportDecoded → Result SenderReport TooShort
taken d = message_taken d.refusal d.needed d.given d.report

-- document 01, question 7: the number and the lengths of a length answer, with the report where the payload is long enough, else none
unfoldable pub decoded_by : Length → SenderReport → SenderReportDecoded
decoded_by answer r = record {
  refusal = (values_of answer).refusal;
  needed = (values_of answer).needed;
  given = (values_of answer).given;
  report = by_length answer r no_report;
}

-- the report, and nothing refused
abbrev pub accepted : SenderReport → SenderReportDecoded
accepted r = decoded_by (Ok tt) r

-- a payload of at least 47 bytes is read; anything past them is ignored
unfoldable pub decoded : List ℕ → SenderReportDecoded
decoded s = decoded_by (length_answer s 0 47) (report_in s)

-- the same from a position on: the needed length is counted from the payload's start
unfoldable pub decoded_at : List ℕ → ℕ → SenderReportDecoded
decoded_at s at = decoded_by (length_answer s at 47) (report_in (drop at s))

-- what every SenderReport of the code keeps: each field fits its type
pub record Fits (r : SenderReport) : Type 0 where
  pub interval_start_counter : r.interval_start_counter < 2 ^ 64
  pub interval_end_counter : r.interval_end_counter < 2 ^ 64
  pub interval_start_timestamp : r.interval_start_timestamp < 2 ^ 32
  pub interval_end_timestamp : r.interval_end_timestamp < 2 ^ 32
  pub interval_bytes_sent : r.interval_bytes_sent < 2 ^ 32
  pub cumulative_packets_sent : r.cumulative_packets_sent < 2 ^ 64
  pub cumulative_bytes_sent : r.cumulative_bytes_sent < 2 ^ 64
