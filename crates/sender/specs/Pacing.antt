-- The report interval from the smoothed round trip, and when a report is due: document 01, "Reports due". Definitions only.
use Rattle.std.specs.Prelude.{ℕ, ◌-◌, ◌*◌, Bool, false, not, ◌&&◌, ◌||◌, ℤ, nat_le}
use Rattle.refusals.specs.Answers.{Answer, Update, answer}
use Rattle.pace.specs.Updates.{Paced, from_srtt, with_bounds}
use Rattle.sender.specs.State.{keeps_the_rule}
use Rattle.sender.specs.Backoff.{backoff}
use Rattle.sender.specs.Reports.{report_refusal}
use Rattle.sender.specs.declared.SenderState.{SenderState}

-- the record with this interval and this count
abbrev pub paced_at : SenderState → ℕ → ℕ → SenderState
paced_at s interval count =
    record {
      cumulative_packets_sent = s.cumulative_packets_sent;
      cumulative_bytes_sent = s.cumulative_bytes_sent;
      interval_start_counter = s.interval_start_counter;
      interval_start_timestamp = s.interval_start_timestamp;
      interval_bytes_sent = s.interval_bytes_sent;
      last_counter = s.last_counter;
      last_timestamp = s.last_timestamp;
      interval_has_data = s.interval_has_data;
      has_last_report = s.has_last_report;
      last_report_ms = s.last_report_ms;
      report_interval_ms = interval;
      consecutive_send_failures = s.consecutive_send_failures;
      srtt_sample_count = count;
    }

-- an update's answer, with the interval and the count put into the record
abbrev pub with_pace : SenderState → Paced → Update SenderState
with_pace s p = record { refusal = p.refusal; state = paced_at s p.report_interval_ms p.srtt_sample_count }

-- "Sender interval is 2 × SRTT": after questions 1 and 8, and counted
unfoldable pub from_srtt_of : SenderState → ℤ → Update SenderState
from_srtt_of s srtt = with_pace s (from_srtt (keeps_the_rule s) 2 s.report_interval_ms s.srtt_sample_count srtt)

-- the same between the caller's bounds, after questions 1, 2, 8 and 9, and not counted
unfoldable pub with_bounds_of : SenderState → ℤ → ℕ → ℕ → Update SenderState
with_bounds_of s srtt lo hi = with_pace s (with_bounds (keeps_the_rule s) 2 s.report_interval_ms s.srtt_sample_count srtt lo hi)

-- the interval, multiplied by the send failures
abbrev pub effective_ms : SenderState → ℕ
effective_ms s = s.report_interval_ms * backoff s.consecutive_send_failures

-- a report is due: there is data, and no report yet or the interval has passed since the last one, 0 having passed if the clock fell
unfoldable pub is_due : SenderState → ℕ → Bool
is_due s now = s.interval_has_data && (not s.has_last_report || nat_le (effective_ms s) (now - s.last_report_ms))

-- the same after the questions; no on a refusal
unfoldable pub should_send_of : SenderState → ℕ → Answer Bool
should_send_of s now = answer false (report_refusal s now) (is_due s now)
