-- Each call ends within the rule: a new record keeps it, and so does the record after any call that is accepted.
use Rattle.std.proofs.Common.{◌≡◌, ℕ, Bool, true, false, cond, eqb, ℤ, refl, eqb-true}
use mathlib.Core.Bool.{and-eq-true_iff}
use Rattle.refusals.specs.Ranges.{clock_ok}
use Rattle.pace.specs.Updates.{Paced, cold_start_refusal, updated, from_srtt, with_bounds}
use Rattle.pace.proofs.QuestionsAnswered.{cold_start_asked, from_srtt_asked, with_bounds_asked}
use Rattle.pace.proofs.IntervalAtMost.{from_srtt_in_range, with_bounds_in_range}
use Rattle.sender.specs.State.{last_report_ok, keeps_the_rule, started_at, fresh, new_of}
use Rattle.sender.specs.Sent.{begun, opened, counted, sent, sent_of}
use Rattle.sender.specs.Backoff.{with_failures, failure_of, success_of}
use Rattle.sender.specs.Reports.{SenderReportBuilt, report_of, some_built, none_built, built, report_refusal, built_of}
use Rattle.sender.specs.Pacing.{with_pace, from_srtt_of, with_bounds_of}
use Rattle.sender.specs.declared.SenderState.{SenderState}
use Rattle.sender.proofs.QuestionsAnswered.{Kept, kept, state_asked, sent_asked, report_asked, failure_asked}

-- the clauses make the rule
keeps : (s : SenderState) → Kept s → keeps_the_rule s ≡ true
unfolding keeps_the_rule
keeps s k = (and-eq-true_iff (last_report_ok s) (clock_ok s.report_interval_ms)).1 (k.last_report, k.interval)

-- ---- a new record
pub fresh_keeps_rule : keeps_the_rule fresh ≡ true
unfolding keeps_the_rule
fresh_keeps_rule = refl

-- refused or not: a refused constructor gives the default
pub new_keeps_rule : (ms : ℕ) → keeps_the_rule (new_of ms).state ≡ true
unfolding new_of
new_keeps_rule ms = go (eqb (cold_start_refusal ms) 0) refl
  where
    go : (b : Bool) → eqb (cold_start_refusal ms) 0 ≡ b → keeps_the_rule (cond b (started_at ms) fresh) ≡ true
    go true e = keeps (started_at ms) (record { last_report = refl; interval = cold_start_asked ms (eqb-true (cold_start_refusal ms) 0 e) })
    go false e = fresh_keeps_rule

-- ---- a frame
frame_keeps_rule : (s : SenderState) (counter timestamp bytes : ℕ) → keeps_the_rule s ≡ true → keeps_the_rule (sent s counter timestamp bytes) ≡ true
unfolding sent opened keeps_the_rule
frame_keeps_rule s counter timestamp bytes h = go s.interval_has_data
  where
    go : (b : Bool) → keeps_the_rule (counted (cond b s (begun s counter timestamp)) counter timestamp bytes) ≡ true
    go true = h
    go false = h

pub sent_keeps_rule : (s : SenderState) (counter timestamp bytes : ℕ) → (sent_of s counter timestamp bytes).refusal ≡ 0
    → keeps_the_rule (sent_of s counter timestamp bytes).state ≡ true
unfolding sent_of
sent_keeps_rule s counter timestamp bytes h = rw h (frame_keeps_rule s counter timestamp bytes (sent_asked s bytes h).rule)

-- ---- a report
module _ (P : SenderReportBuilt → Type 0) (s : SenderState) (now : ℕ) where
  by_data : P (some_built s now (report_of s)) → P (none_built 0 s) → P (built s now)
  unfolding built
  by_data some none = go s.interval_has_data
    where
      go : (b : Bool) → P (cond b (some_built s now (report_of s)) (none_built 0 s))
      go true = some
      go false = none

report_ends_within : (s : SenderState) (now : ℕ) → keeps_the_rule s ≡ true → clock_ok now ≡ true → keeps_the_rule (built s now).state ≡ true
report_ends_within s now h k =
    by_data (λ r. keeps_the_rule r.state ≡ true) s now
    (keeps (some_built s now (report_of s)).state (record { last_report = k; interval = (kept s h).interval }))
    h

-- the refusal is that of the questions
pub report_refusal_lem : (s : SenderState) (now : ℕ) → (built_of s now).refusal ≡ report_refusal s now
unfolding built_of
report_refusal_lem s now = go (report_refusal s now) (eqb (report_refusal s now) 0) (eqb-true (report_refusal s now) 0)
  where
    go : (n : ℕ) (b : Bool) → (b ≡ true → n ≡ 0) → (cond b (built s now) (none_built n s)).refusal ≡ n
    go n true f = rw (f refl) (by_data (λ r. r.refusal ≡ 0) s now refl refl)
    go n false f = refl

pub report_keeps_rule : (s : SenderState) (now : ℕ) → (built_of s now).refusal ≡ 0 → keeps_the_rule (built_of s now).state ≡ true
unfolding built_of
report_keeps_rule s now e =
    let h : report_refusal s now ≡ 0 = rw (report_refusal_lem s now) at e in
    let y = report_asked s now h in
    rw h (report_ends_within s now y.0 y.1)

-- ---- failures, successes
failures_keep_rule : (s : SenderState) (n : ℕ) → keeps_the_rule s ≡ true → keeps_the_rule (with_failures s n) ≡ true
unfolding keeps_the_rule
failures_keep_rule s n h = h

pub failure_keeps_rule : (s : SenderState) → (failure_of s).refusal ≡ 0 → keeps_the_rule (failure_of s).state ≡ true
unfolding failure_of
failure_keeps_rule s h = rw h (failures_keep_rule s _ (failure_asked s h).0)

pub success_keeps_rule : (s : SenderState) → (success_of s).refusal ≡ 0 → keeps_the_rule (success_of s).state ≡ true
unfolding success_of
success_keeps_rule s h = rw h (failures_keep_rule s 0 (state_asked s h))

-- ---- the interval
pace_keeps_rule : (s : SenderState) (p : Paced) → keeps_the_rule s ≡ true → clock_ok p.report_interval_ms ≡ true → keeps_the_rule (with_pace s p).state ≡ true
pace_keeps_rule s p h i = keeps (with_pace s p).state (record { last_report = (kept s h).last_report; interval = i })

pub from_srtt_keeps_rule : (s : SenderState) (srtt : ℤ) → (from_srtt_of s srtt).refusal ≡ 0 → keeps_the_rule (from_srtt_of s srtt).state ≡ true
unfolding from_srtt_of from_srtt updated
from_srtt_keeps_rule s srtt h =
    let rule = (from_srtt_asked (keeps_the_rule s) srtt h).0 in
    pace_keeps_rule s (from_srtt (keeps_the_rule s) 2 s.report_interval_ms s.srtt_sample_count srtt) rule
    (from_srtt_in_range (keeps_the_rule s) 2 s.report_interval_ms s.srtt_sample_count srtt (kept s rule).interval)

pub with_bounds_keeps_rule : (s : SenderState) (srtt : ℤ) (lo hi : ℕ) → (with_bounds_of s srtt lo hi).refusal ≡ 0 → keeps_the_rule (with_bounds_of s srtt lo hi).state ≡ true
unfolding with_bounds_of with_bounds updated
with_bounds_keeps_rule s srtt lo hi h =
    let rule = (with_bounds_asked (keeps_the_rule s) srtt lo hi h).rule in
    pace_keeps_rule s (with_bounds (keeps_the_rule s) 2 s.report_interval_ms s.srtt_sample_count srtt lo hi) rule
    (with_bounds_in_range (keeps_the_rule s) 2 s.report_interval_ms s.srtt_sample_count srtt (kept s rule).interval lo hi)
