-- The report interval from the smoothed round trip, and when a report is due: document 01, "Reports due". Definitions only.
use Rattle.std.specs.Prelude.{Bool, true, false, ◌&&◌, ℕ, ◌-◌, leb, ℤ, None, Option, Some}
use Rattle.refusals.specs.Answers.{Answer, Update, answer}
use Rattle.pace.specs.Updates.{Paced, from_srtt, with_bounds}
use Rattle.receiver.specs.State.{keeps_the_rule, clock_refusal}
use Rattle.receiver.specs.declared.ReceiverState.{ReceiverState}

-- the record with this interval and this count
abbrev pub paced_at : ReceiverState → ℕ → ℕ → ReceiverState
paced_at s interval count =
    record {
      cumulative_packets_recv = s.cumulative_packets_recv;
      cumulative_bytes_recv = s.cumulative_bytes_recv;
      cumulative_reorder_count = s.cumulative_reorder_count;
      highest_counter = s.highest_counter;
      interval_packets_recv = s.interval_packets_recv;
      interval_bytes_recv = s.interval_bytes_recv;
      jitter = s.jitter;
      owd_trend = s.owd_trend;
      owd_ref = s.owd_ref;
      gap_tracker = s.gap_tracker;
      ecn_ce_count = s.ecn_ce_count;
      last_sender_timestamp = s.last_sender_timestamp;
      last_recv_ms = s.last_recv_ms;
      rekey_jitter_grace_until_ms = s.rekey_jitter_grace_until_ms;
      last_report_ms = s.last_report_ms;
      report_interval_ms = interval;
      interval_has_data = s.interval_has_data;
      srtt_sample_count = count;
      interval_max_lateness = s.interval_max_lateness;
    }

-- an update's answer, with the interval and the count put into the record
abbrev pub with_pace : ReceiverState → Paced → Update ReceiverState
with_pace s p = record { refusal = p.refusal; state = paced_at s p.report_interval_ms p.srtt_sample_count }

-- "receiver's 1 × SRTT": after questions 1 and 8, and counted
unfoldable pub from_srtt_of : ReceiverState → ℤ → Update ReceiverState
from_srtt_of s srtt = with_pace s (from_srtt (keeps_the_rule s) 1 s.report_interval_ms s.srtt_sample_count srtt)

-- the same between the caller's bounds, after questions 1, 2, 8 and 9, and not counted
unfoldable pub with_bounds_of : ReceiverState → ℤ → ℕ → ℕ → Update ReceiverState
with_bounds_of s srtt lo hi = with_pace s (with_bounds (keeps_the_rule s) 1 s.report_interval_ms s.srtt_sample_count srtt lo hi)

-- the interval has passed since the last report, 0 having passed if the clock fell; or there was none
abbrev pub passed : Option ℕ → ℕ → ℕ → Bool
passed None interval now = true
passed (Some last) interval now = leb interval (now - last)

-- a report is due: there is data, and the interval has passed
unfoldable pub is_due : ReceiverState → ℕ → Bool
is_due s now = s.interval_has_data && passed s.last_report_ms s.report_interval_ms now

-- the same after questions 1 and 2; no on a refusal
unfoldable pub should_send_of : ReceiverState → ℕ → Answer Bool
should_send_of s now = answer false (clock_refusal s now) (is_due s now)
