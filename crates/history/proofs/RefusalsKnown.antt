-- The refusal of every public call on one of the three records is 0 or the number of a question.
use mathlib.Core.Path.{◌≡◌, refl}
use mathlib.Core.Bool.{Bool, true, ◌&&◌}
use mathlib.Core.List.{List, [], ◌∷◌}
use Prim.Native.Nat.{ℕ}
use lib.Dec.{leb}
use lib.IntN.{ℤ}
use lib.ListN.{length}
use Rattle.refusals.specs.Questions.{question}
use Rattle.refusals.specs.Ranges.{clock_ok, frame_size_ok, smoothed_ok, bounds_ok, counter_ok}
use Rattle.refusals.proofs.ResultsSayAll.{known}
use Rattle.algorithms.specs.Owd.{windows_ok, window, samples_ok}
use Rattle.pace.specs.Updates as pace
use Rattle.sender.specs.State as senders
use Rattle.sender.specs.Sent as sent
use Rattle.sender.specs.Reports as sender_reports
use Rattle.sender.specs.Backoff as backoff
use Rattle.sender.specs.Pacing as sender_pacing
use Rattle.sender.specs.declared.SenderState.{SenderState}
use Rattle.sender.proofs.RuleKept as sender_rule
use Rattle.receiver.specs.State as receivers
use Rattle.receiver.specs.Frames as frames
use Rattle.receiver.specs.Reports as receiver_reports
use Rattle.receiver.specs.Pacing as receiver_pacing
use Rattle.receiver.specs.declared.ReceiverState.{ReceiverState}
use Rattle.metrics.specs.State as metrics
use Rattle.metrics.specs.Reports as processed
use Rattle.metrics.specs.declared.MmpMetrics.{MmpMetrics}

-- 0, or the number of a question
abbrev pub Known : ℕ → Type 0
Known n = leb n 11 ≡ true

-- ---- pacing, of either record
from_srtt : (ok : Bool) (srtt : ℤ) → Known (pace.from_srtt_refusal ok srtt)
unfolding pace.from_srtt_refusal
from_srtt ok srtt = known (question 1 ok ∷ question 8 (smoothed_ok srtt) ∷ []) refl

with_bounds : (ok : Bool) (srtt : ℤ) (lo hi : ℕ) → Known (pace.with_bounds_refusal ok srtt lo hi)
unfolding pace.with_bounds_refusal
with_bounds ok srtt lo hi = known (question 1 ok ∷ question 2 (clock_ok lo && clock_ok hi) ∷ question 8 (smoothed_ok srtt) ∷ question 9 (bounds_ok srtt lo hi) ∷ []) refl

-- ---- sender
pub sender_rule_known : (s : SenderState) → Known (senders.refusal_of s)
unfolding senders.refusal_of
sender_rule_known s = known (question 1 (senders.keeps_the_rule s) ∷ []) refl

pub sent_known : (s : SenderState) (counter timestamp bytes : ℕ) → Known (sent.sent_of s counter timestamp bytes).refusal
unfolding sent.sent_of sent.sent_refusal
sent_known s counter timestamp bytes = known (question 1 (senders.keeps_the_rule s) ∷ question 3 (frame_size_ok bytes) ∷ question 10 (sent.counters_ok s bytes) ∷ []) refl

pub sender_clock_known : (s : SenderState) (now : ℕ) → Known (sender_reports.report_refusal s now)
unfolding sender_reports.report_refusal
sender_clock_known s now = known (question 1 (senders.keeps_the_rule s) ∷ question 2 (clock_ok now) ∷ []) refl

pub sender_built_known : (s : SenderState) (now : ℕ) → Known (sender_reports.built_of s now).refusal
sender_built_known s now = rw (sender_rule.report_refusal_lem s now) (sender_clock_known s now)

pub failure_known : (s : SenderState) → Known (backoff.failure_of s).refusal
unfolding backoff.failure_of backoff.failure_refusal
failure_known s = known (question 1 (senders.keeps_the_rule s) ∷ question 10 (counter_ok 32 s.consecutive_send_failures 1) ∷ []) refl

pub success_known : (s : SenderState) → Known (backoff.success_of s).refusal
unfolding backoff.success_of
success_known s = sender_rule_known s

pub sender_from_srtt_known : (s : SenderState) (srtt : ℤ) → Known (sender_pacing.from_srtt_of s srtt).refusal
unfolding sender_pacing.from_srtt_of pace.from_srtt pace.updated
sender_from_srtt_known s srtt = from_srtt (senders.keeps_the_rule s) srtt

pub sender_with_bounds_known : (s : SenderState) (srtt : ℤ) (lo hi : ℕ) → Known (sender_pacing.with_bounds_of s srtt lo hi).refusal
unfolding sender_pacing.with_bounds_of pace.with_bounds pace.updated
sender_with_bounds_known s srtt lo hi = with_bounds (senders.keeps_the_rule s) srtt lo hi

-- ---- receiver
pub receiver_rule_known : (s : ReceiverState) → Known (receivers.refusal_of s)
unfolding receivers.refusal_of
receiver_rule_known s = known (question 1 (receivers.keeps_the_rule s) ∷ []) refl

pub receiver_clock_known : (s : ReceiverState) (now : ℕ) → Known (receivers.clock_refusal s now)
unfolding receivers.clock_refusal
receiver_clock_known s now = known (question 1 (receivers.keeps_the_rule s) ∷ question 2 (clock_ok now) ∷ []) refl

pub receiver_rekey_known : (s : ReceiverState) (now : ℕ) → Known (receivers.rekey_of s now).refusal
unfolding receivers.rekey_of
receiver_rekey_known s now = receiver_clock_known s now

pub frame_known : (s : ReceiverState) (times : List ℕ) (delays : List ℤ) (counter timestamp bytes : ℕ) (ce : Bool) (now : ℕ) (sampled : Bool) → Known (frames.frame_of s times delays counter timestamp bytes ce now sampled).refusal
unfolding frames.frame_of frames.frame_refusal
frame_known s times delays counter timestamp bytes ce now sampled =
    known (
    question 1 (receivers.keeps_the_rule s)
    ∷ question 2 (clock_ok now)
    ∷ question 3 (frame_size_ok bytes)
    ∷ question 4 (windows_ok s.owd_trend (length times) (length delays))
    ∷ question 5 (frames.sample_ok s timestamp now sampled)
    ∷ question 10 (frames.counters_ok s counter bytes)
    ∷ []
    )
    refl

pub report_known : (s : ReceiverState) (times : List ℕ) (delays : List ℤ) (now : ℕ) → Known (receiver_reports.report_refusal s times delays now)
unfolding receiver_reports.report_refusal
report_known s times delays now =
    known (
    question 1 (receivers.keeps_the_rule s)
    ∷ question 2 (clock_ok now)
    ∷ question 4 (windows_ok s.owd_trend (length times) (length delays))
    ∷ question 5 (samples_ok (window s.owd_trend times delays))
    ∷ []
    )
    refl

pub receiver_from_srtt_known : (s : ReceiverState) (srtt : ℤ) → Known (receiver_pacing.from_srtt_of s srtt).refusal
unfolding receiver_pacing.from_srtt_of pace.from_srtt pace.updated
receiver_from_srtt_known s srtt = from_srtt (receivers.keeps_the_rule s) srtt

pub receiver_with_bounds_known : (s : ReceiverState) (srtt : ℤ) (lo hi : ℕ) → Known (receiver_pacing.with_bounds_of s srtt lo hi).refusal
unfolding receiver_pacing.with_bounds_of pace.with_bounds pace.updated
receiver_with_bounds_known s srtt lo hi = with_bounds (receivers.keeps_the_rule s) srtt lo hi

-- ---- metrics
pub metrics_rule_known : (m : MmpMetrics) → Known (metrics.refusal_of m)
unfolding metrics.refusal_of
metrics_rule_known m = known (question 1 (metrics.keeps_the_rule m) ∷ []) refl

pub process_known : (m : MmpMetrics) (now : ℕ) → Known (processed.process_refusal m now)
unfolding processed.process_refusal
process_known m now = known (question 1 (metrics.keeps_the_rule m) ∷ question 2 (clock_ok now) ∷ question 10 (counter_ok 64 m.reports_seen 1) ∷ []) refl
