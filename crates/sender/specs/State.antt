-- A sender's record, its rule and its fields: document 01, "State rule" and "Reports due". Definitions only.
use Rattle.std.specs.Prelude.{ℕ, Bool, false, cond, not, ◌&&◌, ◌||◌, [], ◌∷◌, ◌==◌}
use Rattle.limits.specs.Limits.{default_cold_start_interval}
use Rattle.refusals.specs.Answers.{Answer, Update, answer}
use Rattle.refusals.specs.Questions.{question, first_no}
use Rattle.refusals.specs.Ranges.{clock_ok}
use Rattle.pace.specs.Updates.{cold_start_refusal}
use Rattle.sender.specs.declared.SenderState.{SenderState}

-- the time of the last report obeys question 2; where there was none there is no time, and the number is free
abbrev pub last_report_ok : SenderState → Bool
last_report_ok s = not s.has_last_report || clock_ok s.last_report_ms

-- document 01, "State rule": the clock field and the report interval obey question 2
unfoldable pub keeps_the_rule : SenderState → Bool
keeps_the_rule s = last_report_ok s && clock_ok s.report_interval_ms

-- nothing sent, and a first report interval
abbrev pub started_at : ℕ → SenderState
started_at ms =
    record {
      cumulative_packets_sent = 0;
      cumulative_bytes_sent = 0;
      interval_start_counter = 0;
      interval_start_timestamp = 0;
      interval_bytes_sent = 0;
      last_counter = 0;
      last_timestamp = 0;
      interval_has_data = false;
      has_last_report = false;
      last_report_ms = 0;
      report_interval_ms = ms;
      consecutive_send_failures = 0;
      srtt_sample_count = 0;
    }

-- the default: the cold-start interval of limits.rs
abbrev pub fresh : SenderState
fresh = started_at default_cold_start_interval

-- a cold-start interval of the caller's; "A refused constructor, given no state, returns the default one"
unfoldable pub new_of : ℕ → Update SenderState
new_of ms = record { refusal = cold_start_refusal ms; state = cond (cold_start_refusal ms == 0) (started_at ms) fresh }

-- document 01, question 1 alone
unfoldable pub refusal_of : SenderState → ℕ
refusal_of s = first_no (question 1 (keeps_the_rule s) ∷ [])

-- a call on s whose refusal is n and that moves the state to t: the state as given on a refusal
abbrev pub updated : ℕ → SenderState → SenderState → Update SenderState
updated n s t = record { refusal = n; state = cond (n == 0) t s }

-- the fields, and 0 on a refusal
abbrev pub packets_of : SenderState → Answer ℕ
packets_of s = answer 0 (refusal_of s) s.cumulative_packets_sent

abbrev pub bytes_of : SenderState → Answer ℕ
bytes_of s = answer 0 (refusal_of s) s.cumulative_bytes_sent

abbrev pub interval_of : SenderState → Answer ℕ
interval_of s = answer 0 (refusal_of s) s.report_interval_ms

abbrev pub failures_of : SenderState → Answer ℕ
failures_of s = answer 0 (refusal_of s) s.consecutive_send_failures
