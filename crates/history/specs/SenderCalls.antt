-- The public calls on a `SenderState`, and the table that gives each the definition which its function's contract cites. Definitions only.
use Rattle.std.specs.Prelude.{ℕ, ℤ}
use Rattle.sender.specs.State.{keeps_the_rule, fresh, new_of, packets_of, bytes_of, interval_of, failures_of}
use Rattle.sender.specs.Sent.{sent_of}
use Rattle.sender.specs.Reports.{built_of}
use Rattle.sender.specs.Backoff.{failure_of, success_of, multiplier_of}
use Rattle.sender.specs.Pacing.{from_srtt_of, with_bounds_of, should_send_of}
use Rattle.sender.specs.declared.SenderState.{SenderState}
use Rattle.refusals.specs.Answers.{Update}
use Rattle.history.specs.Run.{Step}
use Rattle.history.specs.Answers.{Fact, Answer, Told, staying}
use Rattle.history.specs.Tellings as told

-- ---- a new record: each constructor with its arguments
pub data SenderNew : Type 0 where
  new default : SenderNew
  new_with_cold_start : ℕ → SenderNew

abbrev pub new_sender : SenderNew → SenderState
new_sender new = fresh
new_sender default = fresh
new_sender (new_with_cold_start ms) = (new_of ms).state

-- ---- questions: they move nothing
pub data SenderQuestion : Type 0 where
  should_send_report : ℕ → SenderQuestion
  send_failure_backoff_multiplier : SenderQuestion
  keeps_rule : SenderQuestion
  cumulative_packets_sent cumulative_bytes_sent report_interval_ms consecutive_send_failures : SenderQuestion

unfoldable pub sender_told : SenderQuestion → SenderState → Told
sender_told (should_send_report now) s = told.bool (should_send_of s now)
sender_told send_failure_backoff_multiplier s = told.f64 (multiplier_of s)
sender_told keeps_rule s = told.rule (keeps_the_rule s)
sender_told cumulative_packets_sent s = told.u64 (packets_of s)
sender_told cumulative_bytes_sent s = told.u64 (bytes_of s)
sender_told report_interval_ms s = told.u64 (interval_of s)
sender_told consecutive_send_failures s = told.u32 (failures_of s)

-- ---- the calls, with their arguments in the functions' order
pub data SenderCall : Type 0 where
  record_sent : ℕ → ℕ → ℕ → SenderCall
  build_report : ℕ → SenderCall
  record_send_failure record_send_success : SenderCall
  update_report_interval_from_srtt : ℤ → SenderCall
  update_report_interval_with_bounds : ℤ → ℕ → ℕ → SenderCall
  ask : SenderQuestion → SenderCall

-- a call that hands back a record and no more
abbrev pub updating : Update SenderState → Step Answer SenderState
updating u = record { refusal = u.refusal; answer = Answer.nothing; state = u.state }

unfoldable pub sender_step : SenderCall → SenderState → Step Answer SenderState
sender_step (record_sent counter timestamp bytes) s = updating (sent_of s counter timestamp bytes)
sender_step (build_report now) s = record { refusal = (built_of s now).refusal; answer = Answer.sender_report (built_of s now).some (built_of s now).report; state = (built_of s now).state }
sender_step record_send_failure s = record { refusal = (failure_of s).refusal; answer = Answer.told (Fact.number (failure_of s).count); state = (failure_of s).state }
sender_step record_send_success s = record { refusal = (success_of s).refusal; answer = Answer.told (Fact.number (success_of s).previous); state = (success_of s).state }
sender_step (update_report_interval_from_srtt srtt) s = updating (from_srtt_of s srtt)
sender_step (update_report_interval_with_bounds srtt lo hi) s = updating (with_bounds_of s srtt lo hi)
sender_step (ask q) s = staying s (sender_told q s)
