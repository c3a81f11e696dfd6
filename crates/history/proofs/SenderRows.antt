-- From the contract of each public call on a `SenderState` follows its row of `SenderCalls`. `Learnt κs a r s` is the contract, of the arguments a, the result r and
-- the lent memory at exit s; the row is the step of the record passed, and what the function gives is read as one (ResultsRead).
use mathlib.Core.Path.{◌≡◌, refl, ap, ◌∙◌}
use Rattle.sender.proofs.SenderState.new.Reads as new
use Rattle.sender.proofs.SenderStateDefault.default.Reads as default
use Rattle.sender.proofs.SenderState.new_with_cold_start.Reads as new-with-cold-start
use Rattle.sender.proofs.SenderState.record_sent.Reads as record-sent
use Rattle.sender.proofs.SenderState.build_report.Reads as build-report
use Rattle.sender.proofs.SenderState.record_send_failure.Reads as record-send-failure
use Rattle.sender.proofs.SenderState.record_send_success.Reads as record-send-success
use Rattle.sender.proofs.SenderState.update_report_interval_from_srtt.Reads as update-report-interval-from-srtt
use Rattle.sender.proofs.SenderState.update_report_interval_with_bounds.Reads as update-report-interval-with-bounds
use Rattle.sender.proofs.SenderState.should_send_report.Reads as should-send-report
use Rattle.sender.proofs.SenderState.send_failure_backoff_multiplier.Reads as send-failure-backoff-multiplier
use Rattle.sender.proofs.SenderState.keeps_rule.Reads as keeps-rule
use Rattle.sender.proofs.SenderState.cumulative_packets_sent.Reads as cumulative-packets-sent
use Rattle.sender.proofs.SenderState.cumulative_bytes_sent.Reads as cumulative-bytes-sent
use Rattle.sender.proofs.SenderState.report_interval_ms.Reads as report-interval-ms
use Rattle.sender.proofs.SenderState.consecutive_send_failures.Reads as consecutive-send-failures
use mathlib.Core.Bool.{Bool, true, false, cond, true≢false}
use Prim.Native.Nat.{ℕ}
use lib.Dec.{eqb}
use Rattle.std.specs.Prelude.{None, Some}
use Rattle.floats.specs.Operations.{zero_float}
use Rattle.wire.specs.SenderReport.{no_report}
use Rattle.sender.specs.State.{refusal_of, new_of}
use Rattle.sender.specs.Sent.{sent_of}
use Rattle.sender.specs.Backoff.{multiplier, failure_of, success_of}
use Rattle.sender.specs.Pacing.{from_srtt_of, with_bounds_of, is_due, should_send_of}
use Rattle.sender.specs.Reports.{report_of, some_built, none_built, built, built_of, report_built, report_refusal}
use Rattle.sender.specs.declared.SenderState.{SenderState}
use Rattle.history.specs.Answers.{Fact, Answer, staying}
use Rattle.history.specs.SenderCalls.{SenderNew, new_sender, SenderQuestion, sender_told, SenderCall, sender_step}
use Rattle.history.specs.ResultsRead.{asked, moved, moved_with, report_or, handed}
use Rattle.history.specs.Tellings as told
use Rattle.history.proofs.RefusalsKnown.{sender_rule_known, sent_known, sender_clock_known, sender_built_known, failure_known, success_known, sender_from_srtt_known, sender_with_bounds_known}
use Rattle.history.proofs.ResultsReadTrue.{asked_true, moved_true, moved_with_true, handed_true}

-- ---- a new record
pub new_row : (κs : _) (a : _) (r : _) (s : _) → new.Learnt κs a r s → r ≡ new_sender SenderNew.new
new_row κs a r s e = e

pub default_row : (κs : _) (a : _) (r : _) (s : _) → default.Learnt κs a r s → r ≡ new_sender SenderNew.default
default_row κs a r s e = e

pub new_with_cold_start_row : (κs : _) (a : _) (r : _) (s : _) → new-with-cold-start.Learnt κs a r s → handed r ≡ new_sender (SenderNew.new_with_cold_start a.0)
new_with_cold_start_row κs a r s e = ap handed e ∙ handed_true (new_of a.0)

-- ---- the calls
pub record_sent_row : (κs : _) (a : _) (r : _) (s : _) → record-sent.Learnt κs a r s → moved r ≡ sender_step (SenderCall.record_sent a.1.0 a.1.1.0 a.1.1.1.0) a.0
unfolding sender_step
record_sent_row κs a r s e = ap moved e ∙ moved_true (sent_of a.0 a.1.0 a.1.1.0 a.1.1.1.0) (sent_known a.0 a.1.0 a.1.1.0 a.1.1.1.0)

-- there is a report where the definition says so, and it is the one; none beside a refusal
report_said : (s : SenderState) (now : ℕ) → report_or Answer.sender_report no_report (report_built (built_of s now)) ≡ Answer.sender_report (built_of s now).some (built_of s now).report
unfolding built_of built report_built
report_said s now = go (eqb (report_refusal s now) 0) s.interval_has_data
  where
    go : (b d : Bool) → let x = cond b (cond d (some_built s now (report_of s)) (none_built 0 s)) (none_built (report_refusal s now) s) in
        report_or Answer.sender_report no_report (cond x.some (Some x.report) None) ≡ Answer.sender_report x.some x.report
    go true true = refl
    go true false = refl
    go false d = refl

none_beside : (s : SenderState) (now : ℕ) → eqb (built_of s now).refusal 0 ≡ false → report_built (built_of s now) ≡ None
unfolding built_of built report_built
none_beside s now h = go (eqb (report_refusal s now) 0) s.interval_has_data h
  where
    go : (b d : Bool) → let x = cond b (cond d (some_built s now (report_of s)) (none_built 0 s)) (none_built (report_refusal s now) s) in
        eqb x.refusal 0 ≡ false → cond x.some (Some x.report) None ≡ None
    go true true h = absurd (true≢false h)
    go true false h = refl
    go false d h = refl

pub build_report_row : (κs : _) (a : _) (r : _) (s : _) → build-report.Learnt κs a r s → moved_with (report_or Answer.sender_report no_report) None r ≡ sender_step (SenderCall.build_report a.1.0) a.0
unfolding sender_step
build_report_row κs a r s e =
    let b = built_of a.0 a.1.0 in
    ap (moved_with (report_or Answer.sender_report no_report) None) e
    ∙ moved_with_true (report_or Answer.sender_report no_report) None b.refusal b.state (report_built b) (sender_built_known a.0 a.1.0) (none_beside a.0 a.1.0)
    ∙ λ i. record { refusal = b.refusal; answer = report_said a.0 a.1.0 i; state = b.state }

-- a number of failures as an answer
abbrev failures : ℕ → Answer
failures n = Answer.told (Fact.number n)

pub record_send_failure_row : (κs : _) (a : _) (r : _) (s : _) → record-send-failure.Learnt κs a r s → moved_with failures 0 r ≡ sender_step SenderCall.record_send_failure a.0
unfolding sender_step failure_of
record_send_failure_row κs a r s e =
    let f = failure_of a.0 in
    ap (moved_with failures 0) e ∙ moved_with_true failures 0 f.refusal f.state f.count (failure_known a.0) (λ h. rw h)

pub record_send_success_row : (κs : _) (a : _) (r : _) (s : _) → record-send-success.Learnt κs a r s → moved_with failures 0 r ≡ sender_step SenderCall.record_send_success a.0
unfolding sender_step success_of
record_send_success_row κs a r s e =
    let f = success_of a.0 in
    ap (moved_with failures 0) e ∙ moved_with_true failures 0 f.refusal f.state f.previous (success_known a.0) (λ h. rw h)

pub update_report_interval_from_srtt_row : (κs : _) (a : _) (r : _) (s : _) → update-report-interval-from-srtt.Learnt κs a r s → moved r ≡ sender_step (SenderCall.update_report_interval_from_srtt a.1.0) a.0
unfolding sender_step
update_report_interval_from_srtt_row κs a r s e = ap moved e ∙ moved_true (from_srtt_of a.0 a.1.0) (sender_from_srtt_known a.0 a.1.0)

pub update_report_interval_with_bounds_row : (κs : _) (a : _) (r : _) (s : _) → update-report-interval-with-bounds.Learnt κs a r s → moved r ≡ sender_step (SenderCall.update_report_interval_with_bounds a.1.0 a.1.1.0 a.1.1.1.0) a.0
unfolding sender_step
update_report_interval_with_bounds_row κs a r s e = ap moved e ∙ moved_true (with_bounds_of a.0 a.1.0 a.1.1.0 a.1.1.1.0) (sender_with_bounds_known a.0 a.1.0 a.1.1.0 a.1.1.1.0)

-- ---- the questions
pub should_send_report_row : (κs : _) (a : _) (r : _) (s : _) → should-send-report.Learnt κs a r s → staying a.0 (asked Fact.yes_or_no false r) ≡ sender_step (SenderCall.ask (SenderQuestion.should_send_report a.1.0)) a.0
unfolding sender_step sender_told should_send_of
should_send_report_row κs a r s e = ap (λ x. staying a.0 (asked Fact.yes_or_no false x)) e ∙ ap (staying a.0) (asked_true Fact.yes_or_no false (report_refusal a.0 a.1.0) (is_due a.0 a.1.0) (sender_clock_known a.0 a.1.0))

pub send_failure_backoff_multiplier_row : (κs : _) (a : _) (r : _) (s : _) → send-failure-backoff-multiplier.Learnt κs a r s → staying a.0 (asked Fact.float zero_float r) ≡ sender_step (SenderCall.ask SenderQuestion.send_failure_backoff_multiplier) a.0
unfolding sender_step sender_told
send_failure_backoff_multiplier_row κs a r s e = ap (λ x. staying a.0 (asked Fact.float zero_float x)) e ∙ ap (staying a.0) (asked_true Fact.float zero_float (refusal_of a.0) (multiplier a.0.consecutive_send_failures) (sender_rule_known a.0))

pub keeps_rule_row : (κs : _) (a : _) (r : _) (s : _) → keeps-rule.Learnt κs a r s → staying a.0 (told.rule r) ≡ sender_step (SenderCall.ask SenderQuestion.keeps_rule) a.0
unfolding sender_step sender_told
keeps_rule_row κs a r s e = ap (λ x. staying a.0 (told.rule x)) e

pub cumulative_packets_sent_row : (κs : _) (a : _) (r : _) (s : _) → cumulative-packets-sent.Learnt κs a r s → staying a.0 (asked Fact.number 0 r) ≡ sender_step (SenderCall.ask SenderQuestion.cumulative_packets_sent) a.0
unfolding sender_step sender_told
cumulative_packets_sent_row κs a r s e = ap (λ x. staying a.0 (asked Fact.number 0 x)) e ∙ ap (staying a.0) (asked_true Fact.number 0 (refusal_of a.0) a.0.cumulative_packets_sent (sender_rule_known a.0))

pub cumulative_bytes_sent_row : (κs : _) (a : _) (r : _) (s : _) → cumulative-bytes-sent.Learnt κs a r s → staying a.0 (asked Fact.number 0 r) ≡ sender_step (SenderCall.ask SenderQuestion.cumulative_bytes_sent) a.0
unfolding sender_step sender_told
cumulative_bytes_sent_row κs a r s e = ap (λ x. staying a.0 (asked Fact.number 0 x)) e ∙ ap (staying a.0) (asked_true Fact.number 0 (refusal_of a.0) a.0.cumulative_bytes_sent (sender_rule_known a.0))

pub report_interval_ms_row : (κs : _) (a : _) (r : _) (s : _) → report-interval-ms.Learnt κs a r s → staying a.0 (asked Fact.number 0 r) ≡ sender_step (SenderCall.ask SenderQuestion.report_interval_ms) a.0
unfolding sender_step sender_told
report_interval_ms_row κs a r s e = ap (λ x. staying a.0 (asked Fact.number 0 x)) e ∙ ap (staying a.0) (asked_true Fact.number 0 (refusal_of a.0) a.0.report_interval_ms (sender_rule_known a.0))

pub consecutive_send_failures_row : (κs : _) (a : _) (r : _) (s : _) → consecutive-send-failures.Learnt κs a r s → staying a.0 (asked Fact.number 0 r) ≡ sender_step (SenderCall.ask SenderQuestion.consecutive_send_failures) a.0
unfolding sender_step sender_told
consecutive_send_failures_row κs a r s e = ap (λ x. staying a.0 (asked Fact.number 0 x)) e ∙ ap (staying a.0) (asked_true Fact.number 0 (refusal_of a.0) a.0.consecutive_send_failures (sender_rule_known a.0))
