-- A report is built, as sender.rs has it. Definitions only.
use Rattle.std.specs.Prelude.{ℕ, Bool, true, false, cond, [], ◌∷◌, ◌==◌, Option, None, Some, Result}
use Rattle.refusals.specs.Answers.{settled_with}
use Rattle.refusals.specs.Questions.{question, first_no}
use Rattle.refusals.specs.Ranges.{clock_ok}
use Rattle.refusals.specs.declared.refusal.Refused.{Refused}
use Rattle.wire.specs.SenderReport.{no_report}
use Rattle.wire.specs.declared.sender_report.SenderReport.{SenderReport}
use Rattle.sender.specs.State.{keeps_the_rule}
use Rattle.sender.specs.declared.SenderState.{SenderState}

-- document 01, questions 1 and 2, the clock also where no report comes
unfoldable pub report_refusal : SenderState → ℕ → ℕ
report_refusal s now = first_no (question 1 (keeps_the_rule s) ∷ question 2 (clock_ok now) ∷ [])

-- the interval as a report says it, from its first frame to the last one sent
abbrev pub report_of : SenderState → SenderReport
report_of s =
    record {
      interval_start_counter = s.interval_start_counter;
      interval_end_counter = s.last_counter;
      interval_start_timestamp = s.interval_start_timestamp;
      interval_end_timestamp = s.last_timestamp;
      interval_bytes_sent = s.interval_bytes_sent;
      cumulative_packets_sent = s.cumulative_packets_sent;
      cumulative_bytes_sent = s.cumulative_bytes_sent;
    }

-- a report at this time ends the interval
abbrev pub reported : SenderState → ℕ → SenderState
reported s now =
    record {
      cumulative_packets_sent = s.cumulative_packets_sent;
      cumulative_bytes_sent = s.cumulative_bytes_sent;
      interval_start_counter = s.interval_start_counter;
      interval_start_timestamp = s.interval_start_timestamp;
      interval_bytes_sent = 0;
      last_counter = s.last_counter;
      last_timestamp = s.last_timestamp;
      interval_has_data = false;
      has_last_report = true;
      last_report_ms = now;
      report_interval_ms = s.report_interval_ms;
      consecutive_send_failures = s.consecutive_send_failures;
      srtt_sample_count = s.srtt_sample_count;
    }

-- a refusal's number, 0 for none, a report, zeros where there is none, and the record after it
pub record SenderReportBuilt : Type 0 where
  pub refusal : ℕ
  pub some : Bool
  pub report : SenderReport
  pub state : SenderState

-- the report, where there is one
unfoldable pub report_built : SenderReportBuilt → Option SenderReport
report_built r = cond r.some (Some r.report) None

-- no report: a refusal, or "No report for want of data is a plain answer"
abbrev pub none_built : ℕ → SenderState → SenderReportBuilt
none_built n s = record { refusal = n; some = false; report = no_report; state = s }

-- the report r, and the interval ended
abbrev pub some_built : SenderState → ℕ → SenderReport → SenderReportBuilt
some_built s now r = record { refusal = 0; some = true; report = r; state = reported s now }

-- a report, where a frame has been sent since the last one
unfoldable pub built : SenderState → ℕ → SenderReportBuilt
built s now = cond s.interval_has_data (some_built s now (report_of s)) (none_built 0 s)

-- the same after the questions
unfoldable pub built_of : SenderState → ℕ → SenderReportBuilt
built_of s now = cond (report_refusal s now == 0) (built s now) (none_built (report_refusal s now) s)

-- the same as the call's result
abbrev pub built_as : SenderReportBuilt → Result (SenderState × Option SenderReport) (Refused SenderState)
built_as b = settled_with b.refusal b.state (report_built b)
