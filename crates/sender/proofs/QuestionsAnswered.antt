-- What the rule says by its clauses, and what a call that nothing refuses knows of its record and its arguments.
use Rattle.std.proofs.Common.{◌≡◌, ℕ, ◌+◌, ◌^◌, ◌<◌, ◌≤◌, true, [], ◌∷◌, refl, ltb-true, leb-true}
use mathlib.Core.Bool.{and-eq-true_iff}
use Rattle.refusals.specs.Questions.{question}
use Rattle.refusals.specs.Ranges.{max_clock, max_frame, clock_ok, frame_size_ok, counter_ok}
use Rattle.refusals.proofs.FirstNoFound.{each_yes}
use Rattle.sender.specs.State.{last_report_ok, keeps_the_rule, refusal_of}
use Rattle.sender.specs.Sent.{counters_ok, sent_refusal}
use Rattle.sender.specs.Backoff.{failure_refusal}
use Rattle.sender.specs.Reports.{report_refusal}
use Rattle.sender.specs.declared.SenderState.{SenderState}

-- ---- the rule
-- the rule's clauses by name
pub record Kept (s : SenderState) : Type 0 where
  pub last_report : last_report_ok s ≡ true
  pub interval : clock_ok s.report_interval_ms ≡ true

pub kept : (s : SenderState) → keeps_the_rule s ≡ true → Kept s
unfolding keeps_the_rule
kept s h =
    let p = (and-eq-true_iff (last_report_ok s) (clock_ok s.report_interval_ms)).0 h in
    record { last_report = p.0; interval = p.1 }

pub interval_at_most : (s : SenderState) → keeps_the_rule s ≡ true → s.report_interval_ms ≤ max_clock
interval_at_most s h = leb-true s.report_interval_ms max_clock (kept s h).interval

-- ---- the questions of each call
pub state_asked : (s : SenderState) → refusal_of s ≡ 0 → keeps_the_rule s ≡ true
unfolding refusal_of
state_asked s h = (each_yes (question 1 (keeps_the_rule s) ∷ []) refl h).0

-- a frame: the rule, the size, and the two sums that the lifetime's counters can hold
pub record SentAsked (s : SenderState) (bytes : ℕ) : Type 0 where
  pub rule : keeps_the_rule s ≡ true
  pub size : bytes ≤ max_frame
  pub packets_fit : s.cumulative_packets_sent + 1 < 2 ^ 64
  pub bytes_fit : s.cumulative_bytes_sent + bytes < 2 ^ 64

pub sent_asked : (s : SenderState) (bytes : ℕ) → sent_refusal s bytes ≡ 0 → SentAsked s bytes
unfolding sent_refusal
sent_asked s bytes h =
    let y = each_yes (question 1 (keeps_the_rule s) ∷ question 3 (frame_size_ok bytes) ∷ question 10 (counters_ok s bytes) ∷ []) refl h in
    let fit = (and-eq-true_iff (counter_ok 64 s.cumulative_packets_sent 1) (counter_ok 64 s.cumulative_bytes_sent bytes)).0 y.1.1.0 in
    record {
      rule = y.0;
      size = leb-true bytes max_frame y.1.0;
      packets_fit = ltb-true (s.cumulative_packets_sent + 1) (2 ^ 64) fit.0;
      bytes_fit = ltb-true (s.cumulative_bytes_sent + bytes) (2 ^ 64) fit.1;
    }

pub report_asked : (s : SenderState) (now : ℕ) → report_refusal s now ≡ 0 → (keeps_the_rule s ≡ true) × (clock_ok now ≡ true)
unfolding report_refusal
report_asked s now h = let y = each_yes (question 1 (keeps_the_rule s) ∷ question 2 (clock_ok now) ∷ []) refl h in (y.0, y.1.0)

pub failure_asked : (s : SenderState) → failure_refusal s ≡ 0 → (keeps_the_rule s ≡ true) × (s.consecutive_send_failures + 1 < 2 ^ 32)
unfolding failure_refusal
failure_asked s h =
    let y = each_yes (question 1 (keeps_the_rule s) ∷ question 10 (counter_ok 32 s.consecutive_send_failures 1) ∷ []) refl h in
    (y.0, ltb-true (s.consecutive_send_failures + 1) (2 ^ 32) y.1.0)
