-- A frame is sent, as sender.rs counts it, behind document 01, questions 1, 3 and 10. Definitions only.
use Rattle.std.specs.Prelude.{ℕ, ◌+◌, ◌-◌, ◌^◌, min, Bool, true, cond, ◌&&◌, [], ◌∷◌}
use Rattle.refusals.specs.Answers.{Update}
use Rattle.refusals.specs.Questions.{question, first_no}
use Rattle.refusals.specs.Ranges.{frame_size_ok, counter_ok}
use Rattle.sender.specs.State.{keeps_the_rule, updated}
use Rattle.sender.specs.declared.SenderState.{SenderState}

-- the interval begins at the frame of this counter and timestamp
abbrev pub begun : SenderState → ℕ → ℕ → SenderState
begun s counter timestamp =
    record {
      cumulative_packets_sent = s.cumulative_packets_sent;
      cumulative_bytes_sent = s.cumulative_bytes_sent;
      interval_start_counter = counter;
      interval_start_timestamp = timestamp;
      interval_bytes_sent = s.interval_bytes_sent;
      last_counter = s.last_counter;
      last_timestamp = s.last_timestamp;
      interval_has_data = true;
      has_last_report = s.has_last_report;
      last_report_ms = s.last_report_ms;
      report_interval_ms = s.report_interval_ms;
      consecutive_send_failures = s.consecutive_send_failures;
      srtt_sample_count = s.srtt_sample_count;
    }

-- the first frame of an interval is its start
unfoldable pub opened : SenderState → ℕ → ℕ → SenderState
opened s counter timestamp = cond s.interval_has_data s (begun s counter timestamp)

-- the frame is the last, and counted: the interval's bytes stop at 2^32 − 1, as sender.rs saturates them; the lifetime's counters are exact
abbrev pub counted : SenderState → ℕ → ℕ → ℕ → SenderState
counted s counter timestamp bytes =
    record {
      cumulative_packets_sent = s.cumulative_packets_sent + 1;
      cumulative_bytes_sent = s.cumulative_bytes_sent + bytes;
      interval_start_counter = s.interval_start_counter;
      interval_start_timestamp = s.interval_start_timestamp;
      interval_bytes_sent = min (s.interval_bytes_sent + bytes) (2 ^ 32 - 1);
      last_counter = counter;
      last_timestamp = timestamp;
      interval_has_data = s.interval_has_data;
      has_last_report = s.has_last_report;
      last_report_ms = s.last_report_ms;
      report_interval_ms = s.report_interval_ms;
      consecutive_send_failures = s.consecutive_send_failures;
      srtt_sample_count = s.srtt_sample_count;
    }

-- a frame of this counter, timestamp and size
unfoldable pub sent : SenderState → ℕ → ℕ → ℕ → SenderState
sent s counter timestamp bytes = counted (opened s counter timestamp) counter timestamp bytes

-- document 01, question 10: the lifetime's packets and bytes can hold the sums
abbrev pub counters_ok : SenderState → ℕ → Bool
counters_ok s bytes = counter_ok 64 s.cumulative_packets_sent 1 && counter_ok 64 s.cumulative_bytes_sent bytes

-- document 01, questions 1, 3 and 10
unfoldable pub sent_refusal : SenderState → ℕ → ℕ
sent_refusal s bytes = first_no (question 1 (keeps_the_rule s) ∷ question 3 (frame_size_ok bytes) ∷ question 10 (counters_ok s bytes) ∷ [])

-- the frame after the questions
unfoldable pub sent_of : SenderState → ℕ → ℕ → ℕ → Update SenderState
sent_of s counter timestamp bytes = updated (sent_refusal s bytes) s (sent s counter timestamp bytes)
