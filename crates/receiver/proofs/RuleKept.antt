-- Each call ends within the rule: a new record keeps it, and so does the record after any call that is accepted.
use Rattle.std.specs.Prelude.{Option}
use mathlib.Core.Path.{◌≡◌, refl}
use mathlib.Core.Bool.{Bool, true, false, cond}
use mathlib.Core.List.{List}
use Prim.Native.Nat.{ℕ, ◌+◌, ◌≤◌}
use native.Mathlib.Omega.{arith}
use lib.Dec.{leb, ltb, eqb}
use lib.IntN.{ℤ}
use borrow.Author.Tests.{le-leb, eqb-true, leb-true}
use Rattle.refusals.specs.Ranges.{max_clock, clock_ok}
use Rattle.pace.specs.Updates.{Paced, cold_start_refusal, updated, from_srtt, with_bounds}
use Rattle.pace.proofs.QuestionsAnswered.{cold_start_asked, from_srtt_asked, with_bounds_asked}
use Rattle.pace.proofs.IntervalAtMost.{from_srtt_in_range, with_bounds_in_range}
use Rattle.algorithms.proofs.OwdRuleKept as windows
use Rattle.algorithms.specs.Jitter as jitters
use Rattle.algorithms.specs.Owd as owds
use Rattle.algorithms.specs.declared.jitter.JitterEstimator.{JitterEstimator}
use Rattle.algorithms.specs.declared.owd.OwdTrendDetector.{OwdTrendDetector}
use Rattle.algorithms.specs.OwdTrend.{trend_of}
use Rattle.gaps.specs.Gaps.{bursts_ok}
use Rattle.gaps.proofs.RuleKept as trackers
use Rattle.samples.specs.Delay.{reference_ok}
use Rattle.samples.specs.declared.delay.OwdBase.{OwdBase}
use Rattle.samples.proofs.SampleKeepsRule as samples
use Rattle.receiver.specs.State.{grace, grace_ok, keeps_the_rule, started_at, with_window, fresh, new_of, rekeyed, rekey_of}
use Rattle.receiver.specs.Frames.{reorders_after, counted, with_timing, timing_sampled, echo_if_sampled, pushes, with_sample, frame_of}
use Rattle.receiver.specs.Reports.{ReceiverReportBuilt, some_built, none_built, built, report_refusal, built_of}
use Rattle.receiver.specs.Pacing.{with_pace, from_srtt_of, with_bounds_of}
use Rattle.receiver.specs.declared.ReceiverState.{ReceiverState}
use Rattle.receiver.proofs.QuestionsAnswered.{kept, keeps, clock_asked, report_asked}
use Rattle.receiver.proofs.FrameAsked.{frame_asked}
use Rattle.receiver.proofs.BurstLengthFits.{Fits}

-- ---- a new record
started_keeps_rule : (window ms : ℕ) → clock_ok ms ≡ true → keeps_the_rule (started_at window ms) ≡ true
started_keeps_rule window ms h =
    keeps (started_at window ms)
    (record { last_recv = refl; last_report = refl; interval = h; deadline = refl; jitter = refl; window = windows.new_keeps_rule window; reference = refl; tracker = trackers.fresh_keeps_rule; reorders = refl })

pub with_window_keeps_rule : (window : ℕ) → keeps_the_rule (with_window window) ≡ true
with_window_keeps_rule window = started_keeps_rule window _ refl

pub fresh_keeps_rule : keeps_the_rule fresh ≡ true
fresh_keeps_rule = with_window_keeps_rule _

-- refused or not: a refused constructor gives the default
pub new_keeps_rule : (window ms : ℕ) → keeps_the_rule (new_of window ms).state ≡ true
unfolding new_of
new_keeps_rule window ms = go (eqb (cold_start_refusal ms) 0) refl
  where
    go : (b : Bool) → eqb (cold_start_refusal ms) 0 ≡ b → keeps_the_rule (cond b (started_at window ms) fresh) ≡ true
    go true e = started_keeps_rule window ms (cold_start_asked ms (eqb-true (cold_start_refusal ms) 0 e))
    go false e = fresh_keeps_rule

-- ---- a rekey
pub rekey_keeps_rule : (s : ReceiverState) (now : ℕ) → (rekey_of s now).refusal ≡ 0 → keeps_the_rule (rekey_of s now).state ≡ true
unfolding rekey_of rekeyed
rekey_keeps_rule s now h =
    let y = clock_asked s now h in
    let k = kept s y.0 in
    let l = y.1 in
    rw h (keeps _
    (record { last_recv = refl; last_report = k.last_report; interval = k.interval; deadline = le-leb (now + grace) (max_clock + grace) (omega arith); jitter = refl; window = windows.cleared_keeps_rule s.owd_trend k.window; reference = refl; tracker = trackers.fresh_keeps_rule; reorders = le-leb 0 s.cumulative_packets_recv (omega arith) }))

-- ---- a frame
module _ (s : ReceiverState) (rule : keeps_the_rule s ≡ true) where
  -- counting: one late frame more is one frame more
  count_keeps_rule : (counter bytes : ℕ) (ce : Bool) → Fits s → bursts_ok s.gap_tracker counter ≡ true → keeps_the_rule (counted s counter bytes ce) ≡ true
  unfolding counted reorders_after
  count_keeps_rule counter bytes ce f b =
      let k = kept s rule in
      keeps (counted s counter bytes ce)
      (record {
        last_recv = k.last_recv;
        last_report = k.last_report;
        interval = k.interval;
        deadline = k.deadline;
        jitter = k.jitter;
        window = k.window;
        reference = k.reference;
        tracker = trackers.observed_keeps_rule s.gap_tracker counter k.tracker f b;
        reorders = late (ltb counter s.highest_counter) (leb-true s.cumulative_reorder_count s.cumulative_packets_recv k.reorders);
      })
    where
      late : (b : Bool) → s.cumulative_reorder_count ≤ s.cumulative_packets_recv → leb (cond b (s.cumulative_reorder_count + 1) s.cumulative_reorder_count) (s.cumulative_packets_recv + 1) ≡ true
      late true h = le-leb (s.cumulative_reorder_count + 1) (s.cumulative_packets_recv + 1) (omega arith)
      late false h = le-leb s.cumulative_reorder_count (s.cumulative_packets_recv + 1) (omega arith)

  -- the figures of a sample, moved or not
  figures_keep_rule : (j : JitterEstimator) (w : OwdTrendDetector) (ref : Option OwdBase) (deadline : Option ℕ) (timestamp now : ℕ) → jitters.keeps_the_rule j ≡ true → owds.keeps_the_rule w ≡ true
      → reference_ok ref ≡ true → grace_ok deadline ≡ true → clock_ok now ≡ true → keeps_the_rule (with_timing s j w ref deadline timestamp now) ≡ true
  figures_keep_rule j w ref deadline timestamp now jitter window reference deadline-ok clock =
      let k = kept s rule in
      keeps (with_timing s j w ref deadline timestamp now)
      (record { last_recv = clock; last_report = k.last_report; interval = k.interval; deadline = deadline-ok; jitter = jitter; window = window; reference = reference; tracker = k.tracker; reorders = k.reorders })

  timing_keeps_rule : (timestamp now : ℕ) → clock_ok now ≡ true → keeps_the_rule (timing_sampled s timestamp now) ≡ true
  unfolding timing_sampled
  timing_keeps_rule timestamp now h =
      let k = kept s rule in
      figures_keep_rule _ _ _ _ timestamp now (samples.jitter_keeps_rule s.jitter s.last_recv_ms s.last_sender_timestamp timestamp now k.jitter)
      (samples.pushed_keeps_rule s.owd_trend s.owd_ref now k.window) (samples.base_keeps_rule s.owd_ref now timestamp k.reference h) refl h

  echo_keeps_rule : (timestamp now : ℕ) (sampled : Bool) → clock_ok now ≡ true → keeps_the_rule (echo_if_sampled s timestamp now sampled) ≡ true
  unfolding echo_if_sampled
  echo_keeps_rule timestamp now true h = let k = kept s rule in figures_keep_rule _ _ _ _ timestamp now k.jitter k.window k.reference k.deadline h
  echo_keeps_rule timestamp now false h = rule

  sample_keeps_rule : (timestamp now : ℕ) (sampled : Bool) → clock_ok now ≡ true → keeps_the_rule (with_sample s timestamp now sampled) ≡ true
  unfolding with_sample
  sample_keeps_rule timestamp now sampled h = go (pushes s now sampled)
    where
      go : (b : Bool) → keeps_the_rule (cond b (timing_sampled s timestamp now) (echo_if_sampled s timestamp now sampled)) ≡ true
      go true = timing_keeps_rule timestamp now h
      go false = echo_keeps_rule timestamp now sampled h

-- `record_recv` is the same with `sampled` true. That a burst's length is 16 bits is its type's
pub frame_keeps_rule : (s : ReceiverState) (times : List ℕ) (delays : List ℤ) (counter timestamp bytes : ℕ) (ce : Bool) (now : ℕ) (sampled : Bool) → Fits s
    → (frame_of s times delays counter timestamp bytes ce now sampled).refusal ≡ 0
    → keeps_the_rule (frame_of s times delays counter timestamp bytes ce now sampled).state ≡ true
unfolding frame_of
frame_keeps_rule s times delays counter timestamp bytes ce now sampled f h =
    let y = frame_asked s times delays counter timestamp bytes now sampled h in
    rw h (sample_keeps_rule (counted s counter bytes ce) (count_keeps_rule s y.rule counter bytes ce f y.bursts) timestamp now sampled y.clock)

-- ---- a report
module _ (P : ReceiverReportBuilt → Type 0) (s : ReceiverState) (trend : ℤ) (now : ℕ) where
  by_data : P (some_built s trend now) → P (none_built 0 s) → P (built s trend now)
  unfolding built
  by_data some none = go s.interval_has_data
    where
      go : (b : Bool) → P (cond b (some_built s trend now) (none_built 0 s))
      go true = some
      go false = none

report_ends_within : (s : ReceiverState) (trend : ℤ) (now : ℕ) → Fits s → keeps_the_rule s ≡ true → clock_ok now ≡ true → keeps_the_rule (built s trend now).state ≡ true
report_ends_within s trend now f rule h =
    let k = kept s rule in
    by_data (λ r. keeps_the_rule r.state ≡ true) s trend now
    (keeps (some_built s trend now).state
    (record {
      last_recv = k.last_recv;
      last_report = h;
      interval = k.interval;
      deadline = k.deadline;
      jitter = k.jitter;
      window = k.window;
      reference = k.reference;
      tracker = trackers.stats_keep_rule s.gap_tracker k.tracker f;
      reorders = k.reorders;
    }))
    rule

-- the refusal is that of the questions
pub report_refusal_lem : (s : ReceiverState) (times : List ℕ) (delays : List ℤ) (now : ℕ) → (built_of s times delays now).refusal ≡ report_refusal s times delays now
unfolding built_of
report_refusal_lem s times delays now = go (report_refusal s times delays now) (eqb (report_refusal s times delays now) 0) (eqb-true (report_refusal s times delays now) 0)
  where
    go : (n : ℕ) (b : Bool) → (b ≡ true → n ≡ 0) → (cond b (built s (trend_of (owds.window s.owd_trend times delays)) now) (none_built n s)).refusal ≡ n
    go n true f = rw (f refl) (by_data (λ r. r.refusal ≡ 0) s (trend_of (owds.window s.owd_trend times delays)) now refl refl)
    go n false f = refl

pub report_keeps_rule : (s : ReceiverState) (times : List ℕ) (delays : List ℤ) (now : ℕ) → Fits s → (built_of s times delays now).refusal ≡ 0
    → keeps_the_rule (built_of s times delays now).state ≡ true
unfolding built_of
report_keeps_rule s times delays now f e =
    let h : report_refusal s times delays now ≡ 0 = rw (report_refusal_lem s times delays now) at e in
    let y = report_asked s times delays now h in
    rw h (report_ends_within s (trend_of (owds.window s.owd_trend times delays)) now f y.0 y.1)

-- ---- the interval
pace_keeps_rule : (s : ReceiverState) (p : Paced) → keeps_the_rule s ≡ true → clock_ok p.report_interval_ms ≡ true → keeps_the_rule (with_pace s p).state ≡ true
pace_keeps_rule s p h i =
    let k = kept s h in
    keeps (with_pace s p).state
    (record { last_recv = k.last_recv; last_report = k.last_report; interval = i; deadline = k.deadline; jitter = k.jitter; window = k.window; reference = k.reference; tracker = k.tracker; reorders = k.reorders })

pub from_srtt_keeps_rule : (s : ReceiverState) (srtt : ℤ) → (from_srtt_of s srtt).refusal ≡ 0 → keeps_the_rule (from_srtt_of s srtt).state ≡ true
unfolding from_srtt_of from_srtt updated
from_srtt_keeps_rule s srtt h =
    let rule = (from_srtt_asked (keeps_the_rule s) srtt h).0 in
    pace_keeps_rule s (from_srtt (keeps_the_rule s) 1 s.report_interval_ms s.srtt_sample_count srtt) rule
    (from_srtt_in_range (keeps_the_rule s) 1 s.report_interval_ms s.srtt_sample_count srtt (kept s rule).interval)

pub with_bounds_keeps_rule : (s : ReceiverState) (srtt : ℤ) (lo hi : ℕ) → (with_bounds_of s srtt lo hi).refusal ≡ 0 → keeps_the_rule (with_bounds_of s srtt lo hi).state ≡ true
unfolding with_bounds_of with_bounds updated
with_bounds_keeps_rule s srtt lo hi h =
    let rule = (with_bounds_asked (keeps_the_rule s) srtt lo hi h).rule in
    pace_keeps_rule s (with_bounds (keeps_the_rule s) 1 s.report_interval_ms s.srtt_sample_count srtt lo hi) rule
    (with_bounds_in_range (keeps_the_rule s) 1 s.report_interval_ms s.srtt_sample_count srtt (kept s rule).interval lo hi)
