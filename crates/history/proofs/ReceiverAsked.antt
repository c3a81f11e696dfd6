-- A call on a receiver's record that keeps its rule is refused as its own arguments, the record's counters and its live samples say, and not by 1. Its window keeps
-- the capacity that it was made with.
use mathlib.Core.Path.{◌≡◌, refl}
use mathlib.Core.Bool.{Bool, true, false, cond, ◌&&◌}
use mathlib.Core.List.{List, [], ◌∷◌, ◌++◌}
use Prim.Native.Nat.{ℕ, zero, suc}
use lib.Dec.{eqb}
use lib.IntN.{ℤ}
use lib.ListN.{take, drop}
use Rattle.refusals.proofs.Clauses.{left, right}
use Rattle.refusals.specs.Answers.{answer}
use Rattle.refusals.specs.Questions.{question, first_no}
use Rattle.refusals.specs.Ranges.{clock_ok, delay_ok}
use Rattle.algorithms.specs.Owd as owds
use Rattle.algorithms.specs.Owd.{samples_ok, pairs, window}
use Rattle.algorithms.specs.declared.owd.OwdTrendDetector.{OwdTrendDetector}
use Rattle.pace.specs.Updates as pace
use Rattle.pace.specs.Updates.{cold_start_refusal, from_srtt_refusal, from_srtt, with_bounds_refusal, with_bounds}
use Rattle.samples.proofs.SampleKeepsRule.{pushed_keeps_capacity}
use Rattle.receiver.specs.State.{keeps_the_rule, refusal_of, clock_refusal, updated, started_at, fresh, new_of, rekeyed, rekey_of}
use Rattle.receiver.specs.Frames.{counters_ok, counted, timing_sampled, echo_if_sampled, pushes, with_sample, frame_refusal, frame_of}
use Rattle.receiver.specs.Reports.{some_built, none_built, built, report_refusal, built_of}
use Rattle.receiver.specs.Pacing.{from_srtt_of, with_bounds_of, should_send_of}
use Rattle.receiver.specs.declared.ReceiverState.{ReceiverState}
use Rattle.receiver.proofs.RuleKept.{report_refusal_lem}
use Rattle.receiver.proofs.FrameAsked.{sample_in_range}
use Rattle.history.specs.ReceiverCalls.{ReceiverNew, new_receiver, ReceiverQuestion, receiver_told, Frame, ReceiverCall, receiver_step}
use Rattle.history.specs.Paper.{default_window}
use Rattle.history.specs.Asked as paper
use Rattle.history.proofs.Asked.{Lawful, questions, behind_rule, never_refused}

-- ---- the capacity
abbrev capacity_in : ReceiverState → ℕ
capacity_in s = s.owd_trend.capacity

sample_capacity : (s : ReceiverState) (timestamp now : ℕ) (sampled : Bool) → capacity_in (with_sample s timestamp now sampled) ≡ capacity_in s
unfolding with_sample timing_sampled echo_if_sampled
sample_capacity s timestamp now sampled = go (pushes s now sampled) sampled
  where
    go : (b c : Bool) → capacity_in (cond b (timing_sampled s timestamp now) (echo_if_sampled s timestamp now c)) ≡ capacity_in s
    go true c = pushed_keeps_capacity s.owd_trend s.owd_ref now
    go false true = refl
    go false false = refl

updated_capacity : (n : ℕ) (s t : ReceiverState) → capacity_in t ≡ capacity_in s → capacity_in (updated n s t).state ≡ capacity_in s
updated_capacity n s t h = go (eqb n 0)
  where
    go : (b : Bool) → capacity_in (cond b t s) ≡ capacity_in s
    go true = h
    go false = refl

frame_capacity : (s : ReceiverState) (f : Frame) (sampled : Bool) → capacity_in (frame_of s f.times f.delays f.counter f.timestamp f.bytes f.ce f.now sampled).state ≡ capacity_in s
unfolding frame_of counted
frame_capacity s f sampled =
    updated_capacity (frame_refusal s f.times f.delays f.counter f.timestamp f.bytes f.now sampled) s _
    (sample_capacity (counted s f.counter f.bytes f.ce) f.timestamp f.now sampled)

report_capacity : (s : ReceiverState) (times : List ℕ) (ds : List ℤ) (now : ℕ) → capacity_in (built_of s times ds now).state ≡ capacity_in s
unfolding built_of built
report_capacity s times ds now = go (eqb (report_refusal s times ds now) 0) s.interval_has_data (report_refusal s times ds now) _
  where
    go : (b c : Bool) (n : ℕ) (trend : ℤ) → capacity_in (cond b (cond c (some_built s trend now) (none_built 0 s)) (none_built n s)).state ≡ capacity_in s
    go true true n trend = refl
    go true false n trend = refl
    go false c n trend = refl

rekeyed_capacity : (s : ReceiverState) (deadline : ℕ) → capacity_in (rekeyed s deadline) ≡ capacity_in s
unfolding rekeyed
rekeyed_capacity s deadline = refl

pub capacity_next : (c : ReceiverCall) (s : ReceiverState) → capacity_in (receiver_step c s).state ≡ capacity_in s
unfolding receiver_step rekey_of from_srtt_of with_bounds_of
capacity_next (ReceiverCall.record_frame f sampled) s = frame_capacity s f sampled
capacity_next (ReceiverCall.record_recv f) s = frame_capacity s f true
capacity_next (ReceiverCall.reset_for_rekey now) s = updated_capacity (clock_refusal s now) s _ (rekeyed_capacity s _)
capacity_next (ReceiverCall.build_report times ds now) s = report_capacity s times ds now
capacity_next (ReceiverCall.update_report_interval_from_srtt srtt) s = refl
capacity_next (ReceiverCall.update_report_interval_with_bounds srtt lo hi) s = refl
capacity_next (ReceiverCall.ask q) s = refl

pub new_capacity : (k : ReceiverNew) → capacity_in (new_receiver k) ≡ paper.capacity_of k
unfolding new_of cold_start_refusal first_no owds.new_of
new_capacity (ReceiverNew.new window) = refl
new_capacity ReceiverNew.default = refl
new_capacity (ReceiverNew.new_with_cold_start window ms) = go (paper.clock ms) refl
  where
    go : (b : Bool) → paper.clock ms ≡ b → capacity_in (cond (eqb (first_no (question 2 (clock_ok ms) ∷ [])) 0) (started_at window ms) fresh) ≡ cond b (paper.clamped window) default_window
    go true e = rw (e)
    go false e = rw e

-- ---- a window all of whose samples are in range
delays_take : (n : ℕ) (ds : List ℤ) → paper.delays ds ≡ true → paper.delays (take n ds) ≡ true
unfolding paper.delays
delays_take zero ds h = refl
delays_take (suc n) [] h = refl
delays_take (suc n) (d ∷ ds) h = rw (left (delay_ok d) (paper.delays ds) h, delays_take n ds (right (delay_ok d) (paper.delays ds) h))

delays_drop : (n : ℕ) (ds : List ℤ) → paper.delays ds ≡ true → paper.delays (drop n ds) ≡ true
unfolding paper.delays
delays_drop zero ds h = h
delays_drop (suc n) [] h = refl
delays_drop (suc n) (d ∷ ds) h = delays_drop n ds (right (delay_ok d) (paper.delays ds) h)

delays_append : (ds es : List ℤ) → paper.delays ds ≡ true → paper.delays es ≡ true → paper.delays (ds ++ es) ≡ true
unfolding paper.delays
delays_append [] es h k = k
delays_append (d ∷ ds) es h k = rw (left (delay_ok d) (paper.delays ds) h, delays_append ds es (right (delay_ok d) (paper.delays ds) h) k)

pairs_yes : (ts : List ℕ) (ds : List ℤ) → paper.delays ds ≡ true → samples_ok (pairs ts ds) ≡ true
unfolding paper.delays
pairs_yes [] ds h = refl
pairs_yes (t ∷ ts) [] h = refl
pairs_yes (t ∷ ts) (d ∷ ds) h = rw (left (delay_ok d) (paper.delays ds) h, pairs_yes ts ds (right (delay_ok d) (paper.delays ds) h))

samples_yes : (w : OwdTrendDetector) (times : List ℕ) (ds : List ℤ) → paper.delays ds ≡ true → samples_ok (window w times ds) ≡ true
unfolding window
samples_yes w times ds h = pairs_yes (owds.live w times) (owds.live w ds) (delays_take w.count _ (delays_drop w.first _ (delays_append ds ds h h)))

-- ---- the questions, beside windows of the capacity that the record was made with
module _ (s : ReceiverState) (rule : keeps_the_rule s ≡ true) (capacity : ℕ) (same : capacity_in s ≡ capacity) where
  asks_rule : Lawful paper.rule_alone (refusal_of s)
  unfolding refusal_of first_no
  asks_rule = rw rule never_refused

  told_lawful : (q : ReceiverQuestion) → Lawful (paper.receiver_told q) (receiver_told q s).refusal
  unfolding first_no receiver_told should_send_of clock_refusal answer
  told_lawful (ReceiverQuestion.should_send_report now) = rw rule (behind_rule (paper.ask 2 (paper.clock now) ∷ []) [] refl)
  told_lawful ReceiverQuestion.keeps_rule = never_refused
  told_lawful ReceiverQuestion.cumulative_packets_recv = asks_rule
  told_lawful ReceiverQuestion.cumulative_bytes_recv = asks_rule
  told_lawful ReceiverQuestion.highest_counter = asks_rule
  told_lawful ReceiverQuestion.jitter_us = asks_rule
  told_lawful ReceiverQuestion.report_interval_ms = asks_rule
  told_lawful ReceiverQuestion.last_recv_ms = asks_rule
  told_lawful ReceiverQuestion.ecn_ce_count = asks_rule
  told_lawful ReceiverQuestion.interval_max_lateness = asks_rule

  frame_lawful : (f : Frame) (sampled : Bool) → Lawful (paper.frame capacity f) (frame_refusal s f.times f.delays f.counter f.timestamp f.bytes f.now sampled)
  unfolding first_no frame_refusal
  frame_lawful f sampled =
      rw (rule, sample_in_range s f.timestamp f.now sampled, same)
      (behind_rule (paper.ask 2 (paper.clock f.now) ∷ paper.ask 3 (paper.frame_size f.bytes) ∷ paper.ask 4 (paper.windows capacity f.times f.delays) ∷ [])
      (question 10 (counters_ok s f.counter f.bytes) ∷ []) refl)

  -- question 5 of a report
  report_lawful : (times : List ℕ) (ds : List ℤ) (now : ℕ) → Lawful (paper.to_receiver capacity (ReceiverCall.build_report times ds now)) (report_refusal s times ds now)
  unfolding first_no report_refusal window
  report_lawful times ds now = rw (rule, same) (go (paper.delays ds) (samples_yes s.owd_trend times ds))
    where
      own : List paper.Asked
      own = paper.ask 2 (paper.clock now) ∷ paper.ask 4 (paper.windows capacity times ds) ∷ []

      go : (b : Bool) → (b ≡ true → samples_ok (window s.owd_trend times ds) ≡ true) →
          Lawful (paper.put own (cond b [] (5 ∷ []))) (first_no (questions own ++ (question 5 (samples_ok (window s.owd_trend times ds)) ∷ [])))
      go true h = rw (h refl) (behind_rule own [] refl)
      go false h = behind_rule own (question 5 (samples_ok (window s.owd_trend times ds)) ∷ []) refl

  pub receiver_lawful : (c : ReceiverCall) → Lawful (paper.to_receiver capacity c) (receiver_step c s).refusal
  unfolding first_no receiver_step frame_of rekey_of clock_refusal from_srtt_of from_srtt from_srtt_refusal with_bounds_of with_bounds with_bounds_refusal pace.updated
  receiver_lawful (ReceiverCall.record_frame f sampled) = frame_lawful f sampled
  receiver_lawful (ReceiverCall.record_recv f) = frame_lawful f true
  receiver_lawful (ReceiverCall.reset_for_rekey now) = rw rule (behind_rule (paper.ask 2 (paper.clock now) ∷ []) [] refl)
  receiver_lawful (ReceiverCall.build_report times ds now) = rw (report_refusal_lem s times ds now) (report_lawful times ds now)
  receiver_lawful (ReceiverCall.update_report_interval_from_srtt srtt) = rw rule (behind_rule (paper.ask 8 (paper.smoothed srtt) ∷ []) [] refl)
  receiver_lawful (ReceiverCall.update_report_interval_with_bounds srtt lo hi) =
      rw rule (behind_rule (paper.ask 2 (paper.clock lo && paper.clock hi) ∷ paper.ask 8 (paper.smoothed srtt) ∷ paper.ask 9 (paper.bounds srtt lo hi) ∷ []) [] refl)
  receiver_lawful (ReceiverCall.ask q) = told_lawful q
