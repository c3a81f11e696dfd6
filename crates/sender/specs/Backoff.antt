-- Failures to send a report: document 01, "Reports due". Definitions only.
use Rattle.std.specs.Prelude.{ℕ, ◌+◌, ◌^◌, min, cond, [], ◌∷◌, ◌==◌, Float, Result}
use Rattle.refusals.specs.Answers.{Answer, answer, settled_with}
use Rattle.refusals.specs.Questions.{question, first_no}
use Rattle.floats.specs.Operations.{float, zero_float}
use Rattle.refusals.specs.Ranges.{counter_ok}
use Rattle.refusals.specs.declared.refusal.Refused.{Refused}
use Rattle.sender.specs.State.{keeps_the_rule, refusal_of}
use Rattle.sender.specs.declared.SenderState.{SenderState}

-- "then 32": failures beyond these lengthen the interval no more
abbrev pub max_doublings : ℕ
max_doublings = 5

-- "Send failures multiply the sender's by 2, 4, 8, 16, 32, then 32": 2 to the failures
unfoldable pub backoff : ℕ → ℕ
backoff failures = 2 ^ min failures max_doublings

-- the same as a float, exactly: 1.0, 2.0, .. 32.0
unfoldable pub multiplier : ℕ → Float
multiplier failures = float 1 (min failures max_doublings)

-- the multiplier, and 0.0 on a refusal
abbrev pub multiplier_of : SenderState → Answer Float
multiplier_of s = answer zero_float (refusal_of s) (multiplier s.consecutive_send_failures)

-- so many failures in a row
abbrev pub with_failures : SenderState → ℕ → SenderState
with_failures s n =
    record {
      cumulative_packets_sent = s.cumulative_packets_sent;
      cumulative_bytes_sent = s.cumulative_bytes_sent;
      interval_start_counter = s.interval_start_counter;
      interval_start_timestamp = s.interval_start_timestamp;
      interval_bytes_sent = s.interval_bytes_sent;
      last_counter = s.last_counter;
      last_timestamp = s.last_timestamp;
      interval_has_data = s.interval_has_data;
      has_last_report = s.has_last_report;
      last_report_ms = s.last_report_ms;
      report_interval_ms = s.report_interval_ms;
      consecutive_send_failures = n;
      srtt_sample_count = s.srtt_sample_count;
    }

-- document 01, questions 1 and 10
unfoldable pub failure_refusal : SenderState → ℕ
failure_refusal s = first_no (question 1 (keeps_the_rule s) ∷ question 10 (counter_ok 32 s.consecutive_send_failures 1) ∷ [])

-- a refusal's number, 0 for none, the failures in a row with this one, and the record after it
pub record SendFailure : Type 0 where
  pub refusal : ℕ
  pub count : ℕ
  pub state : SenderState

-- a failure: one more in a row, which is the answer
abbrev pub failure : ℕ → SenderState → ℕ → SendFailure
failure n s count = record { refusal = n; count = cond (n == 0) count 0; state = cond (n == 0) (with_failures s count) s }

-- the same after the questions
unfoldable pub failure_of : SenderState → SendFailure
failure_of s = failure (failure_refusal s) s (s.consecutive_send_failures + 1)

-- a refusal's number, 0 for none, the failures in a row that a success ended, and the record after it
pub record SendSuccess : Type 0 where
  pub refusal : ℕ
  pub previous : ℕ
  pub state : SenderState

-- a success: none in a row, and the answer is how many there were
abbrev pub success : ℕ → SenderState → SendSuccess
success n s = record { refusal = n; previous = cond (n == 0) s.consecutive_send_failures 0; state = cond (n == 0) (with_failures s 0) s }

-- the same after question 1
unfoldable pub success_of : SenderState → SendSuccess
success_of s = success (refusal_of s) s

-- ---- the same as the calls' results
abbrev pub failed_as : SendFailure → Result (SenderState × ℕ) (Refused SenderState)
failed_as f = settled_with f.refusal f.state f.count

abbrev pub succeeded_as : SendSuccess → Result (SenderState × ℕ) (Refused SenderState)
succeeded_as s = settled_with s.refusal s.state s.previous
