-- What a frame that nothing refuses knows of its record and its arguments, and that counting moves nothing that the windows depend on.
use Rattle.std.specs.Prelude.{Ok}
use mathlib.Core.Path.{◌≡◌, refl, sym, ◌∙◌}
use mathlib.Core.Bool.{Bool, true, not, ◌&&◌, and-eq-true_iff, or-true}
use mathlib.Core.List.{List, [], ◌∷◌}
use Prim.Native.Nat.{ℕ, ◌+◌, ◌^◌, ◌≤◌}
use native.Mathlib.Omega.{arith}
use lib.IntN.{ℤ}
use lib.ListN.{length}
use borrow.Author.Tests.{leb-true, ltb-true}
use Rattle.refusals.specs.Answers.{admitted}
use Rattle.refusals.specs.Questions.{question, first_no}
use Rattle.refusals.specs.Ranges.{max_frame, clock_ok, frame_size_ok, counter_ok, delay_ok}
use Rattle.refusals.proofs.FirstNoFound.{each_yes, none_refuses}
use Rattle.refusals.proofs.ResultsSayAll.{past}
use Rattle.algorithms.specs.Owd as owds
use Rattle.algorithms.specs.Owd.{windows_ok, push_refusal}
use Rattle.gaps.specs.Gaps.{bursts_ok}
use Rattle.samples.specs.Delay.{delay_of, window_for}
use Rattle.samples.proofs.DelayInRange.{delay_in_range}
use Rattle.samples.proofs.SampleKeepsRule.{window_keeps_rule, window_keeps_capacity}
use Rattle.receiver.specs.State.{keeps_the_rule}
use Rattle.receiver.specs.Frames.{Room, counted, counters_ok, pushes, slot_for, times_after, delays_after, sample_ok, frame_refusal}
use Rattle.receiver.specs.declared.ReceiverState.{ReceiverState}
use Rattle.receiver.proofs.QuestionsAnswered.{kept}

-- the rule, the clock, the size, the windows' lengths, room for the sums, and a count of bursts that can hold one that begins
pub record FrameAsked (s : ReceiverState) (times : List ℕ) (delays : List ℤ) (counter bytes now : ℕ) : Type 0 where
  pub rule : keeps_the_rule s ≡ true
  pub clock : clock_ok now ≡ true
  pub size : bytes ≤ max_frame
  pub windows : windows_ok s.owd_trend (length times) (length delays) ≡ true
  pub room : Room s bytes
  pub bursts : bursts_ok s.gap_tracker counter ≡ true

pub frame_asked : (s : ReceiverState) (times : List ℕ) (delays : List ℤ) (counter timestamp bytes now : ℕ) (sampled : Bool) → frame_refusal s times delays counter timestamp bytes now sampled ≡ 0
    → FrameAsked s times delays counter bytes now
unfolding frame_refusal
frame_asked s times delays counter timestamp bytes now sampled h =
    let y =
    each_yes (
    question 1 (keeps_the_rule s)
    ∷ question 2 (clock_ok now)
    ∷ question 3 (frame_size_ok bytes)
    ∷ question 4 (windows_ok s.owd_trend (length times) (length delays))
    ∷ question 5 (sample_ok s timestamp now sampled)
    ∷ question 10 (counters_ok s counter bytes)
    ∷ []
    )
    refl h in
    let packets = counter_ok 64 s.cumulative_packets_recv 1 in
    let sizes = counter_ok 64 s.cumulative_bytes_recv bytes in
    let all = (and-eq-true_iff (packets && sizes) (bursts_ok s.gap_tracker counter)).0 y.1.1.1.1.1.0 in
    let each = (and-eq-true_iff packets sizes).0 all.0 in
    let fit = ltb-true (s.cumulative_packets_recv + 1) (2 ^ 64) each.0 in
    let late = leb-true s.cumulative_reorder_count s.cumulative_packets_recv (kept s y.0).reorders in
    record {
      rule = y.0;
      clock = y.1.0;
      size = leb-true bytes max_frame y.1.1.0;
      windows = y.1.1.1.0;
      room = record { packets_fit = fit; bytes_fit = ltb-true (s.cumulative_bytes_recv + bytes) (2 ^ 64) each.1; reorders_fit = omega arith };
      bursts = all.1;
    }

-- the sample that a frame pushes is in range, whatever the record, the timestamp and the clock
pub sample_in_range : (s : ReceiverState) (timestamp now : ℕ) (sampled : Bool) → sample_ok s timestamp now sampled ≡ true
sample_in_range s timestamp now sampled = rw (delay_in_range s.owd_ref timestamp now) (or-true (not (pushes s now sampled)))

-- so that question 5 can be left out: the number of the first no is the same
pub delay_question_left_out : (s : ReceiverState) (times : List ℕ) (delays : List ℤ) (counter timestamp bytes now : ℕ) (sampled : Bool)
    → first_no (question 1 (keeps_the_rule s) ∷ question 2 (clock_ok now) ∷ question 3 (frame_size_ok bytes) ∷ question 4 (windows_ok s.owd_trend (length times) (length delays)) ∷ question 10 (counters_ok s counter bytes) ∷ [])
    ≡ frame_refusal s times delays counter timestamp bytes now sampled
unfolding frame_refusal first_no
delay_question_left_out s times delays counter timestamp bytes now sampled = rw (sample_in_range s timestamp now sampled)

-- where the others let a frame through, nothing refuses it
pub frame_passed : (s : ReceiverState) (times : List ℕ) (delays : List ℤ) (counter timestamp bytes now : ℕ) (sampled : Bool) (u : Unit {0})
    → Ok u ≡ admitted (first_no (question 1 (keeps_the_rule s) ∷ question 2 (clock_ok now) ∷ question 3 (frame_size_ok bytes) ∷ question 4 (windows_ok s.owd_trend (length times) (length delays)) ∷ question 10 (counters_ok s counter bytes) ∷ [])) s
    → frame_refusal s times delays counter timestamp bytes now sampled ≡ 0
frame_passed s times delays counter timestamp bytes now sampled u h = sym (delay_question_left_out s times delays counter timestamp bytes now sampled) ∙ past (first_no (question 1 (keeps_the_rule s) ∷ question 2 (clock_ok now) ∷ question 3 (frame_size_ok bytes) ∷ question 4 (windows_ok s.owd_trend (length times) (length delays)) ∷ question 10 (counters_ok s counter bytes) ∷ [])) s u h

-- a push by itself would be accepted too: its own questions of the window that an accepted frame pushes to are answered yes
pub pushed_sample_accepted : (s : ReceiverState) (times : List ℕ) (delays : List ℤ) (counter timestamp bytes now : ℕ) (sampled : Bool) → frame_refusal s times delays counter timestamp bytes now sampled ≡ 0
    → push_refusal (window_for s.owd_trend s.owd_ref now) times delays (delay_of s.owd_ref timestamp now) ≡ 0
unfolding push_refusal
pushed_sample_accepted s times delays counter timestamp bytes now sampled h =
    let y = frame_asked s times delays counter timestamp bytes now sampled h in
    let w = window_for s.owd_trend s.owd_ref now in
    let us = delay_of s.owd_ref timestamp now in
    none_refuses (question 1 (owds.keeps_the_rule w) ∷ question 4 (windows_ok w (length times) (length delays)) ∷ question 5 (delay_ok us) ∷ [])
    (window_keeps_rule s.owd_trend s.owd_ref now (kept s y.rule).window, (rw (window_keeps_capacity s.owd_trend s.owd_ref now) y.windows, (delay_in_range s.owd_ref timestamp now, tt)))

module _ (s : ReceiverState) (counter bytes : ℕ) (ce : Bool) (timestamp now : ℕ) (sampled : Bool) where
  pub counted_times : (times : List ℕ) → times_after (counted s counter bytes ce) times timestamp now sampled ≡ times_after s times timestamp now sampled
  unfolding times_after pushes slot_for counted
  counted_times times = refl

  pub counted_delays : (delays : List ℤ) → delays_after (counted s counter bytes ce) delays timestamp now sampled ≡ delays_after s delays timestamp now sampled
  unfolding delays_after pushes slot_for counted
  counted_delays delays = refl
