-- What the joined tests of a frame show of each question.
use Rattle.std.specs.Prelude.{None, Option, Some}
use mathlib.Core.Path.{◌≡◌, refl, sym, ◌∙◌}
use mathlib.Core.Bool.{true, false, not, ◌&&◌}
use mathlib.Core.List.{[], ◌∷◌}
use Prim.Native.Nat.{ℕ, ◌+◌, ◌-◌, ◌*◌, ◌^◌}
use native.Mathlib.Omega.{arith}
use lib.Dec.{ltb, leb, eqb}
use borrow.Author.Tests.{ltb-true, leb-true, eqb-true, not-true, lt-ltb, le-leb, eq-eqb}
use Rattle.limits.specs.Limits.{min_owd_window_size, max_owd_window_size}
use Rattle.refusals.specs.Questions.{question, first_no}
use Rattle.refusals.specs.Ranges.{max_clock, max_frame, clock_ok, optional_clock_ok, frame_size_ok, counter_ok}
use Rattle.refusals.proofs.Clauses.{both, or}
use Rattle.refusals.proofs.FirstNoFound.{none_refuses}
use Rattle.algorithms.specs.Jitter as jitters
use Rattle.algorithms.specs.Owd as owds
use Rattle.algorithms.specs.Owd.{windows_ok}
use Rattle.algorithms.specs.declared.owd.OwdTrendDetector.{OwdTrendDetector}
use Rattle.algorithms.proofs.OwdRuleKept as owd-kept
use Rattle.gaps.specs.Gaps as gaps
use Rattle.gaps.specs.Gaps.{begins_burst, finished_bursts}
use Rattle.gaps.specs.declared.GapTracker.{GapTracker}
use Rattle.samples.specs.Delay.{reference_ok}
use Rattle.receiver.specs.State.{grace, grace_ok, reorders_ok, keeps_the_rule}
use Rattle.receiver.specs.Frames.{counters_ok}
use Rattle.receiver.specs.declared.ReceiverState.{ReceiverState}
use Rattle.receiver.proofs.QuestionsAnswered.{keeps}

-- ---- the clocks
-- a clock below it is near
abbrev near_clock : ℕ
near_clock = 2 ^ 42

near : (ms : ℕ) → ltb ms near_clock ≡ true → clock_ok ms ≡ true
near ms h = let l = ltb-true ms near_clock h in le-leb ms max_clock (omega (arith, l))

-- a deadline in a clock's range
deadline_near : (d : Option ℕ) → optional_clock_ok d ≡ true → grace_ok d ≡ true
deadline_near None h = refl
deadline_near (Some ms) h = let l = leb-true ms max_clock h in le-leb ms (max_clock + grace) (omega (arith, l))

-- each clock as a number that is in range where the clock is
pub record Read (s : ReceiverState) (recv report deadline reference : ℕ) : Type 0 where
  pub recv_read : clock_ok recv ≡ optional_clock_ok s.last_recv_ms
  pub report_read : clock_ok report ≡ optional_clock_ok s.last_report_ms
  pub deadline_read : clock_ok deadline ≡ optional_clock_ok s.rekey_jitter_grace_until_ms
  pub reference_read : clock_ok reference ≡ reference_ok s.owd_ref

abbrev pub Clocks : ReceiverState → ℕ → Type 0
Clocks s now =
    (optional_clock_ok s.last_recv_ms ≡ true)
    × (optional_clock_ok s.last_report_ms ≡ true)
    × (clock_ok s.report_interval_ms ≡ true)
    × (grace_ok s.rekey_jitter_grace_until_ms ≡ true)
    × (reference_ok s.owd_ref ≡ true)
    × (clock_ok now ≡ true)

pub clocks_near : (s : ReceiverState) (now recv report deadline reference : ℕ) → Read s recv report deadline reference
    → (ltb recv near_clock && ltb report near_clock && ltb s.report_interval_ms near_clock && ltb deadline near_clock && ltb reference near_clock && ltb now near_clock) ≡ true
    → Clocks s now
clocks_near s now recv report deadline reference r h =
    let interval = s.report_interval_ms in
    let n = both (ltb recv near_clock && ltb report near_clock && ltb interval near_clock && ltb deadline near_clock && ltb reference near_clock) (ltb now near_clock) h in
    let f = both (ltb recv near_clock && ltb report near_clock && ltb interval near_clock && ltb deadline near_clock) (ltb reference near_clock) n.0 in
    let d = both (ltb recv near_clock && ltb report near_clock && ltb interval near_clock) (ltb deadline near_clock) f.0 in
    let i = both (ltb recv near_clock && ltb report near_clock) (ltb interval near_clock) d.0 in
    let p = both (ltb recv near_clock) (ltb report near_clock) i.0 in (
      sym r.recv_read ∙ near recv p.0,
      sym r.report_read ∙ near report p.1,
      near interval i.1,
      deadline_near s.rekey_jitter_grace_until_ms (sym r.deadline_read ∙ near deadline d.1),
      sym r.reference_read ∙ near reference f.1,
      near now n.1,
    )

-- ---- the window and its buffers
pub window_lent : (w : OwdTrendDetector) (times delays : ℕ)
    → (eqb w.capacity times && eqb times delays && leb min_owd_window_size times && leb times max_owd_window_size && leb w.count times && ltb w.first times) ≡ true
    → (owds.keeps_the_rule w ≡ true) × (windows_ok w times delays ≡ true)
window_lent w times delays h =
    let same = eqb w.capacity times in
    let alike = eqb times delays in
    let f = both (same && alike && leb min_owd_window_size times && leb times max_owd_window_size && leb w.count times) (ltb w.first times) h in
    let c = both (same && alike && leb min_owd_window_size times && leb times max_owd_window_size) (leb w.count times) f.0 in
    let m = both (same && alike && leb min_owd_window_size times) (leb times max_owd_window_size) c.0 in
    let l = both (same && alike) (leb min_owd_window_size times) m.0 in
    let e = both same alike l.0 in
    let t = eqb-true w.capacity times e.0 in
    let d = eqb-true times delays e.1 in
    let least = leb-true min_owd_window_size times l.1 in
    let most = leb-true times max_owd_window_size m.1 in
    let count = leb-true w.count times c.1 in
    let first = ltb-true w.first times f.1 in (
      owd-kept.keeps w (record { least = omega (arith, t, least); most = omega (arith, t, most); count = omega (arith, t, count); first = omega (arith, t, first) }),
      rw (eq-eqb times w.capacity (sym t), eq-eqb delays w.capacity (sym (t ∙ d))) refl,
    )

-- ---- the counts
outside_burst : (t : GapTracker) → t.in_burst ≡ false → eqb t.current_burst_len 0 ≡ true → leb t.total_burst_len (gaps.max_length * t.burst_count) ≡ true → gaps.keeps_the_rule t ≡ true
unfolding gaps.keeps_the_rule finished_bursts
outside_burst t out len total = rw (out, len, total) refl

abbrev pub Counts : ReceiverState → ℕ → Type 0
Counts s bytes =
    (gaps.keeps_the_rule s.gap_tracker ≡ true)
    × (reorders_ok s ≡ true)
    × (frame_size_ok bytes ≡ true)
    × (counter_ok 64 s.cumulative_packets_recv 1 ≡ true)
    × (counter_ok 64 s.cumulative_bytes_recv bytes ≡ true)
    × (counter_ok 32 s.gap_tracker.burst_count 1 ≡ true)

-- a count below it is low
abbrev low_count : ℕ
low_count = 2 ^ 63

pub counts_low : (s : ReceiverState) (bytes : ℕ) → let t = s.gap_tracker in
    (not t.in_burst && eqb t.current_burst_len 0 && leb t.total_burst_len (gaps.max_length * t.burst_count) && ltb t.burst_count (2 ^ 32 - 1)
    && leb s.cumulative_reorder_count s.cumulative_packets_recv && ltb s.cumulative_packets_recv low_count && ltb s.cumulative_bytes_recv low_count && frame_size_ok bytes)
    ≡ true
    → Counts s bytes
counts_low s bytes h =
    let t = s.gap_tracker in
    let out = not t.in_burst in
    let len = eqb t.current_burst_len 0 in
    let total = leb t.total_burst_len (gaps.max_length * t.burst_count) in
    let some = ltb t.burst_count (2 ^ 32 - 1) in
    let late = reorders_ok s in
    let packets = ltb s.cumulative_packets_recv low_count in
    let sizes = ltb s.cumulative_bytes_recv low_count in
    let z = both (out && len && total && some && late && packets && sizes) (frame_size_ok bytes) h in
    let y = both (out && len && total && some && late && packets) sizes z.0 in
    let p = both (out && len && total && some && late) packets y.0 in
    let r = both (out && len && total && some) late p.0 in
    let b = both (out && len && total) some r.0 in
    let g = both (out && len) total b.0 in
    let l = both out len g.0 in
    let size = leb-true bytes max_frame z.1 in
    let carried = ltb-true s.cumulative_bytes_recv low_count y.1 in
    let came = ltb-true s.cumulative_packets_recv low_count p.1 in
    let bursts = ltb-true t.burst_count (2 ^ 32 - 1) b.1 in (
      outside_burst t (not-true t.in_burst l.0) l.1 g.1,
      r.1,
      z.1,
      lt-ltb (s.cumulative_packets_recv + 1) (2 ^ 64) (omega (arith, came)),
      lt-ltb (s.cumulative_bytes_recv + bytes) (2 ^ 64) (omega (arith, carried, size)),
      lt-ltb (t.burst_count + 1) (2 ^ 32) (omega (arith, bursts)),
    )

-- ---- all of them
pub all_answered : (s : ReceiverState) (times delays bytes now : ℕ) → Clocks s now → jitters.keeps_the_rule s.jitter ≡ true
    → (owds.keeps_the_rule s.owd_trend ≡ true) × (windows_ok s.owd_trend times delays ≡ true) → Counts s bytes → (counter : ℕ)
    → first_no (
    question 1 (keeps_the_rule s)
    ∷ question 2 (clock_ok now)
    ∷ question 3 (frame_size_ok bytes)
    ∷ question 4 (windows_ok s.owd_trend times delays)
    ∷ question 10 (counters_ok s counter bytes)
    ∷ []
    ) ≡ 0
all_answered s times delays bytes now c j w n counter =
    let rule =
    keeps s
    (record {
      last_recv = c.0;
      last_report = c.1;
      interval = c.2;
      deadline = c.3;
      jitter = j;
      window = w.0;
      reference = c.4;
      tracker = n.0;
      reorders = n.1;
    }) in
    let bursts = or (not (begins_burst s.gap_tracker counter)) (counter_ok 32 s.gap_tracker.burst_count 1) (λ e. n.5) in
    none_refuses (
    question 1 (keeps_the_rule s)
    ∷ question 2 (clock_ok now)
    ∷ question 3 (frame_size_ok bytes)
    ∷ question 4 (windows_ok s.owd_trend times delays)
    ∷ question 10 (counters_ok s counter bytes)
    ∷ []
    )
    (rule, (c.5, (n.2, (w.1, (rw (n.3, n.4, bursts) refl, tt)))))
