-- From the contract of each public call on a `ReceiverState` follows its row of `ReceiverCalls`. `Learnt κs a r s` is the contract, of the arguments a, the result r and
-- the lent memory at exit s; the row is the step of the record passed, and what the function gives is read as one (ResultsRead).
use mathlib.Core.Path.{◌≡◌, refl, ap, ◌∙◌}
use mathlib.Core.Bool.{Bool, true, false, cond, true≢false}
use lib.Dec.{eqb}
use mathlib.Core.List.{List}
use Prim.Native.Nat.{ℕ}
use lib.IntN.{ℤ}
use Rattle.receiver.proofs.ReceiverState.new.Reads as new
use Rattle.receiver.proofs.ReceiverStateDefault.default.Reads as default
use Rattle.receiver.proofs.ReceiverState.new_with_cold_start.Reads as new-with-cold-start
use Rattle.receiver.proofs.ReceiverState.record_frame.Reads as record-frame
use Rattle.receiver.proofs.ReceiverState.record_recv.Reads as record-recv
use Rattle.receiver.proofs.ReceiverState.build_report.Reads as build-report
use Rattle.receiver.proofs.ReceiverState.reset_for_rekey.Reads as reset-for-rekey
use Rattle.receiver.proofs.ReceiverState.update_report_interval_from_srtt.Reads as update-report-interval-from-srtt
use Rattle.receiver.proofs.ReceiverState.update_report_interval_with_bounds.Reads as update-report-interval-with-bounds
use Rattle.receiver.proofs.ReceiverState.should_send_report.Reads as should-send-report
use Rattle.receiver.proofs.ReceiverState.keeps_rule.Reads as keeps-rule
use Rattle.receiver.proofs.ReceiverState.cumulative_packets_recv.Reads as cumulative-packets-recv
use Rattle.receiver.proofs.ReceiverState.cumulative_bytes_recv.Reads as cumulative-bytes-recv
use Rattle.receiver.proofs.ReceiverState.highest_counter.Reads as highest-counter
use Rattle.receiver.proofs.ReceiverState.jitter_us.Reads as jitter-us
use Rattle.receiver.proofs.ReceiverState.report_interval_ms.Reads as report-interval-ms
use Rattle.receiver.proofs.ReceiverState.last_recv_ms.Reads as last-recv-ms
use Rattle.receiver.proofs.ReceiverState.ecn_ce_count.Reads as ecn-ce-count
use Rattle.receiver.proofs.ReceiverState.interval_max_lateness.Reads as interval-max-lateness
use Rattle.std.specs.Prelude.{Result, None, Some}
use Rattle.refusals.specs.Answers as answers
use Rattle.refusals.specs.declared.refusal.Refused.{Refused}
use Rattle.algorithms.specs.Jitter as jitters
use Rattle.algorithms.specs.Owd.{window}
use Rattle.algorithms.specs.OwdTrend.{trend_of}
use Rattle.wire.specs.ReceiverReport.{no_report}
use Rattle.receiver.specs.State.{refusal_of, clock_refusal, new_of, rekey_of}
use Rattle.receiver.specs.Frames.{frame_of}
use Rattle.receiver.specs.Pacing.{from_srtt_of, with_bounds_of, is_due, should_send_of}
use Rattle.receiver.specs.Reports.{some_built, none_built, built, built_of, report_built, report_refusal}
use Rattle.receiver.specs.declared.ReceiverState.{ReceiverState}
use Rattle.history.specs.Run.{Step}
use Rattle.history.specs.Answers.{Fact, Answer, staying}
use Rattle.history.specs.ReceiverCalls.{ReceiverNew, new_receiver, ReceiverQuestion, receiver_told, Frame, ReceiverCall, receiver_step}
use Rattle.history.specs.ResultsRead.{asked, moved, moved_with, report_or, handed}
use Rattle.history.specs.Tellings as told
use Rattle.history.proofs.RefusalsKnown.{Known, receiver_rule_known, receiver_clock_known, receiver_rekey_known, frame_known, report_known, receiver_from_srtt_known, receiver_with_bounds_known}
use Rattle.history.proofs.ResultsReadTrue.{asked_true, moved_true, moved_with_true, handed_true}

-- ---- a new record
pub new_row : (κs : _) (a : _) (r : _) (s : _) → new.Learnt κs a r s → r ≡ new_receiver (ReceiverNew.new a.0)
new_row κs a r s e = e

pub default_row : (κs : _) (a : _) (r : _) (s : _) → default.Learnt κs a r s → r ≡ new_receiver ReceiverNew.default
default_row κs a r s e = e

pub new_with_cold_start_row : (κs : _) (a : _) (r : _) (s : _) → new-with-cold-start.Learnt κs a r s → handed r ≡ new_receiver (ReceiverNew.new_with_cold_start a.0 a.1.0)
new_with_cold_start_row κs a r s e = ap handed e ∙ handed_true (new_of a.0 a.1.0)

-- ---- the calls
-- a frame's arguments, in the functions' order
abbrev frame : List ℕ → List ℤ → ℕ → ℕ → ℕ → Bool → ℕ → Frame
frame times delays counter timestamp bytes ce now = record { times = times; delays = delays; counter = counter; timestamp = timestamp; bytes = bytes; ce = ce; now = now }

-- the record after it, and the windows at exit
abbrev receiving : Result ReceiverState (Refused ReceiverState) → List ℕ → List ℤ → Step Answer ReceiverState
receiving r times delays = let m = moved r in record { refusal = m.refusal; answer = Answer.windows times delays; state = m.state }

received : (u : answers.Update ReceiverState) (times : List ℕ) (delays : List ℤ) → Known u.refusal → receiving (answers.settled u) times delays ≡ record { refusal = u.refusal; answer = Answer.windows times delays; state = u.state }
received u times delays h = λ i. let m = moved_true u h i in record { refusal = m.refusal; answer = Answer.windows times delays; state = m.state }

pub record_frame_row : (κs : _) (a : _) (r : _) (s : _) → record-frame.Learnt κs a r s → receiving r s.1.0.now s.1.1.0.now
    ≡ receiver_step
    (ReceiverCall.record_frame (frame a.1.0.now a.1.1.0.now a.1.1.1.0 a.1.1.1.1.0 a.1.1.1.1.1.0 a.1.1.1.1.1.1.0 a.1.1.1.1.1.1.1.0) a.1.1.1.1.1.1.1.1.0)
    a.0
unfolding receiver_step
record_frame_row κs a r s e =
    (λ i. receiving (e.0 i) (e.1.0 i) (e.1.1 i))
    ∙ received (frame_of a.0 a.1.0.now a.1.1.0.now a.1.1.1.0 a.1.1.1.1.0 a.1.1.1.1.1.0 a.1.1.1.1.1.1.0 a.1.1.1.1.1.1.1.0 a.1.1.1.1.1.1.1.1.0) _ _ (frame_known a.0 a.1.0.now a.1.1.0.now a.1.1.1.0 a.1.1.1.1.0 a.1.1.1.1.1.0 a.1.1.1.1.1.1.0 a.1.1.1.1.1.1.1.0 a.1.1.1.1.1.1.1.1.0)

pub record_recv_row : (κs : _) (a : _) (r : _) (s : _) → record-recv.Learnt κs a r s → receiving r s.1.0.now s.1.1.0.now
    ≡ receiver_step
    (ReceiverCall.record_recv (frame a.1.0.now a.1.1.0.now a.1.1.1.0 a.1.1.1.1.0 a.1.1.1.1.1.0 a.1.1.1.1.1.1.0 a.1.1.1.1.1.1.1.0))
    a.0
unfolding receiver_step
record_recv_row κs a r s e =
    (λ i. receiving (e.0 i) (e.1.0 i) (e.1.1 i))
    ∙ received (frame_of a.0 a.1.0.now a.1.1.0.now a.1.1.1.0 a.1.1.1.1.0 a.1.1.1.1.1.0 a.1.1.1.1.1.1.0 a.1.1.1.1.1.1.1.0 true) _ _ (frame_known a.0 a.1.0.now a.1.1.0.now a.1.1.1.0 a.1.1.1.1.0 a.1.1.1.1.1.0 a.1.1.1.1.1.1.0 a.1.1.1.1.1.1.1.0 true)

-- there is a report where the definition says so, and it is the one; none beside a refusal; and the refusal is that of the questions
module _ (s : ReceiverState) (times : List ℕ) (delays : List ℤ) (now : ℕ) where
  trend : ℤ
  trend = trend_of (window s.owd_trend times delays)

  refusal : ℕ
  refusal = report_refusal s times delays now

  report_said : report_or Answer.receiver_report no_report (report_built (built_of s times delays now)) ≡ Answer.receiver_report (built_of s times delays now).some (built_of s times delays now).report
  unfolding built_of built report_built trend refusal
  report_said = go (eqb refusal 0) s.interval_has_data
    where
      go : (b d : Bool) → let x = cond b (cond d (some_built s trend now) (none_built 0 s)) (none_built refusal s) in
          report_or Answer.receiver_report no_report (cond x.some (Some x.report) None) ≡ Answer.receiver_report x.some x.report
      go true true = refl
      go true false = refl
      go false d = refl

  none_beside : eqb (built_of s times delays now).refusal 0 ≡ false → report_built (built_of s times delays now) ≡ None
  unfolding built_of built report_built trend refusal
  none_beside h = go (eqb refusal 0) s.interval_has_data h
    where
      go : (b d : Bool) → let x = cond b (cond d (some_built s trend now) (none_built 0 s)) (none_built refusal s) in
          eqb x.refusal 0 ≡ false → cond x.some (Some x.report) None ≡ None
      go true true h = absurd (true≢false h)
      go true false h = refl
      go false d h = refl

  built_known : Known (built_of s times delays now).refusal
  unfolding built_of built trend refusal
  built_known = go (eqb refusal 0) s.interval_has_data
    where
      go : (b d : Bool) → Known (cond b (cond d (some_built s trend now) (none_built 0 s)) (none_built refusal s)).refusal
      go true true = refl
      go true false = refl
      go false d = report_known s times delays now

pub build_report_row : (κs : _) (a : _) (r : _) (s : _) → build-report.Learnt κs a r s → moved_with (report_or Answer.receiver_report no_report) None r ≡ receiver_step (ReceiverCall.build_report a.1.0.now a.1.1.0.now a.1.1.1.0) a.0
unfolding receiver_step
build_report_row κs a r s e =
    let b = built_of a.0 a.1.0.now a.1.1.0.now a.1.1.1.0 in
    ap (moved_with (report_or Answer.receiver_report no_report) None) e
    ∙ moved_with_true (report_or Answer.receiver_report no_report) None b.refusal b.state (report_built b) (built_known a.0 a.1.0.now a.1.1.0.now a.1.1.1.0) (none_beside a.0 a.1.0.now a.1.1.0.now a.1.1.1.0)
    ∙ λ i. record { refusal = b.refusal; answer = report_said a.0 a.1.0.now a.1.1.0.now a.1.1.1.0 i; state = b.state }

pub reset_for_rekey_row : (κs : _) (a : _) (r : _) (s : _) → reset-for-rekey.Learnt κs a r s → moved r ≡ receiver_step (ReceiverCall.reset_for_rekey a.1.0) a.0
unfolding receiver_step
reset_for_rekey_row κs a r s e = ap moved e ∙ moved_true (rekey_of a.0 a.1.0) (receiver_rekey_known a.0 a.1.0)

pub update_report_interval_from_srtt_row : (κs : _) (a : _) (r : _) (s : _) → update-report-interval-from-srtt.Learnt κs a r s → moved r ≡ receiver_step (ReceiverCall.update_report_interval_from_srtt a.1.0) a.0
unfolding receiver_step
update_report_interval_from_srtt_row κs a r s e = ap moved e ∙ moved_true (from_srtt_of a.0 a.1.0) (receiver_from_srtt_known a.0 a.1.0)

pub update_report_interval_with_bounds_row : (κs : _) (a : _) (r : _) (s : _) → update-report-interval-with-bounds.Learnt κs a r s → moved r ≡ receiver_step (ReceiverCall.update_report_interval_with_bounds a.1.0 a.1.1.0 a.1.1.1.0) a.0
unfolding receiver_step
update_report_interval_with_bounds_row κs a r s e = ap moved e ∙ moved_true (with_bounds_of a.0 a.1.0 a.1.1.0 a.1.1.1.0) (receiver_with_bounds_known a.0 a.1.0 a.1.1.0 a.1.1.1.0)

-- ---- the questions
pub should_send_report_row : (κs : _) (a : _) (r : _) (s : _) → should-send-report.Learnt κs a r s → staying a.0 (asked Fact.yes_or_no false r) ≡ receiver_step (ReceiverCall.ask (ReceiverQuestion.should_send_report a.1.0)) a.0
unfolding receiver_step receiver_told should_send_of
should_send_report_row κs a r s e = ap (λ x. staying a.0 (asked Fact.yes_or_no false x)) e ∙ ap (staying a.0) (asked_true Fact.yes_or_no false (clock_refusal a.0 a.1.0) (is_due a.0 a.1.0) (receiver_clock_known a.0 a.1.0))

pub keeps_rule_row : (κs : _) (a : _) (r : _) (s : _) → keeps-rule.Learnt κs a r s → staying a.0 (told.rule r) ≡ receiver_step (ReceiverCall.ask ReceiverQuestion.keeps_rule) a.0
unfolding receiver_step receiver_told
keeps_rule_row κs a r s e = ap (λ x. staying a.0 (told.rule x)) e

pub cumulative_packets_recv_row : (κs : _) (a : _) (r : _) (s : _) → cumulative-packets-recv.Learnt κs a r s → staying a.0 (asked Fact.number 0 r) ≡ receiver_step (ReceiverCall.ask ReceiverQuestion.cumulative_packets_recv) a.0
unfolding receiver_step receiver_told
cumulative_packets_recv_row κs a r s e = ap (λ x. staying a.0 (asked Fact.number 0 x)) e ∙ ap (staying a.0) (asked_true Fact.number 0 (refusal_of a.0) a.0.cumulative_packets_recv (receiver_rule_known a.0))

pub cumulative_bytes_recv_row : (κs : _) (a : _) (r : _) (s : _) → cumulative-bytes-recv.Learnt κs a r s → staying a.0 (asked Fact.number 0 r) ≡ receiver_step (ReceiverCall.ask ReceiverQuestion.cumulative_bytes_recv) a.0
unfolding receiver_step receiver_told
cumulative_bytes_recv_row κs a r s e = ap (λ x. staying a.0 (asked Fact.number 0 x)) e ∙ ap (staying a.0) (asked_true Fact.number 0 (refusal_of a.0) a.0.cumulative_bytes_recv (receiver_rule_known a.0))

pub highest_counter_row : (κs : _) (a : _) (r : _) (s : _) → highest-counter.Learnt κs a r s → staying a.0 (asked Fact.number 0 r) ≡ receiver_step (ReceiverCall.ask ReceiverQuestion.highest_counter) a.0
unfolding receiver_step receiver_told
highest_counter_row κs a r s e = ap (λ x. staying a.0 (asked Fact.number 0 x)) e ∙ ap (staying a.0) (asked_true Fact.number 0 (refusal_of a.0) a.0.highest_counter (receiver_rule_known a.0))

pub jitter_us_row : (κs : _) (a : _) (r : _) (s : _) → jitter-us.Learnt κs a r s → staying a.0 (asked Fact.number 0 r) ≡ receiver_step (ReceiverCall.ask ReceiverQuestion.jitter_us) a.0
unfolding receiver_step receiver_told
jitter_us_row κs a r s e = ap (λ x. staying a.0 (asked Fact.number 0 x)) e ∙ ap (staying a.0) (asked_true Fact.number 0 (refusal_of a.0) (jitters.jitter_us_of a.0.jitter).value (receiver_rule_known a.0))

pub report_interval_ms_row : (κs : _) (a : _) (r : _) (s : _) → report-interval-ms.Learnt κs a r s → staying a.0 (asked Fact.number 0 r) ≡ receiver_step (ReceiverCall.ask ReceiverQuestion.report_interval_ms) a.0
unfolding receiver_step receiver_told
report_interval_ms_row κs a r s e = ap (λ x. staying a.0 (asked Fact.number 0 x)) e ∙ ap (staying a.0) (asked_true Fact.number 0 (refusal_of a.0) a.0.report_interval_ms (receiver_rule_known a.0))

pub last_recv_ms_row : (κs : _) (a : _) (r : _) (s : _) → last-recv-ms.Learnt κs a r s → staying a.0 (asked Fact.optional_number None r) ≡ receiver_step (ReceiverCall.ask ReceiverQuestion.last_recv_ms) a.0
unfolding receiver_step receiver_told
last_recv_ms_row κs a r s e = ap (λ x. staying a.0 (asked Fact.optional_number None x)) e ∙ ap (staying a.0) (asked_true Fact.optional_number None (refusal_of a.0) a.0.last_recv_ms (receiver_rule_known a.0))

pub ecn_ce_count_row : (κs : _) (a : _) (r : _) (s : _) → ecn-ce-count.Learnt κs a r s → staying a.0 (asked Fact.number 0 r) ≡ receiver_step (ReceiverCall.ask ReceiverQuestion.ecn_ce_count) a.0
unfolding receiver_step receiver_told
ecn_ce_count_row κs a r s e = ap (λ x. staying a.0 (asked Fact.number 0 x)) e ∙ ap (staying a.0) (asked_true Fact.number 0 (refusal_of a.0) a.0.ecn_ce_count (receiver_rule_known a.0))

pub interval_max_lateness_row : (κs : _) (a : _) (r : _) (s : _) → interval-max-lateness.Learnt κs a r s → staying a.0 (asked Fact.number 0 r) ≡ receiver_step (ReceiverCall.ask ReceiverQuestion.interval_max_lateness) a.0
unfolding receiver_step receiver_told
interval_max_lateness_row κs a r s e = ap (λ x. staying a.0 (asked Fact.number 0 x)) e ∙ ap (staying a.0) (asked_true Fact.number 0 (refusal_of a.0) a.0.interval_max_lateness (receiver_rule_known a.0))
