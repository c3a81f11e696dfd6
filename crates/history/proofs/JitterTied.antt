-- A receiver's scaled jitter is that of the differences which the calls on it gave, and so the jitter of every report that it builds stays near their exact
-- average.
use Rattle.std.specs.Prelude.{None, Option, Some}
use mathlib.Core.Path.{◌≡◌, refl, sym, ap, ◌∙◌}
use mathlib.Core.Bool.{Bool, true, false, cond, not}
use mathlib.Core.List.{List, [], ◌∷◌, ◌++◌, map, append-nil, map-append, foldl-append}
use Prim.Native.Nat.{ℕ, ◌+◌, ◌-◌, ◌<◌, ◌^◌}
use native.Mathlib.Omega.{arith}
use lib.Dec.{eqb}
use lib.IntN.{ℤ, nat_abs}
use borrow.Author.Tests.{eqb-true}
use Rattle.numbers.specs.Jitter.{jitter_step, scaled_of, reported}
use Rattle.numbers.specs.Signs.{as_unsigned}
use Rattle.numbers.proofs.JitterStaysNear.{ReportedNear, reported_of_near}
use Rattle.refusals.specs.Questions.{question}
use Rattle.refusals.proofs.FirstNoFound.{none_refuses}
use Rattle.algorithms.specs.Jitter as jitters
use Rattle.algorithms.specs.Jitter.{stepped, jitter_us_of}
use Rattle.algorithms.specs.Owd.{window}
use Rattle.algorithms.specs.OwdTrend.{trend_of}
use Rattle.algorithms.proofs.JitterKeepsRule.{scaled_at_most}
use Rattle.algorithms.specs.declared.jitter.JitterEstimator.{JitterEstimator}
use Rattle.samples.specs.Transit.{in_grace, transit, jitter_after}
use Rattle.pace.specs.Updates.{cold_start_refusal, from_srtt, with_bounds}
use Rattle.pace.specs.Updates.{Paced}
use Rattle.receiver.specs.State.{keeps_the_rule, started_at, fresh, new_of, rekeyed, rekey_of}
use Rattle.receiver.specs.Frames.{counted, timing_sampled, echo_if_sampled, pushes, with_sample, frame_of}
use Rattle.receiver.specs.Reports.{built, some_built, none_built, report_of, report_refusal, built_of}
use Rattle.receiver.specs.Pacing.{with_pace, from_srtt_of, with_bounds_of}
use Rattle.receiver.specs.declared.ReceiverState.{ReceiverState}
use Rattle.receiver.proofs.QuestionsAnswered.{kept, report_asked}
use Rattle.wire.specs.declared.receiver_report.ReceiverReport.{ReceiverReport}
use Rattle.history.specs.Answers.{Answer}
use Rattle.history.specs.ReceiverCalls.{ReceiverNew, new_receiver, Frame, ReceiverCall, framing, receiver_step}
use Rattle.history.specs.Paper.{grace}
use Rattle.history.specs.ExactJitter as exact
use Rattle.history.specs.NoCreep.{jitter_average}
use Rattle.history.proofs.DifferencesAgree.{grace_in, grace_agrees, difference_agrees}

-- the last sampled frame as the record has it
abbrev pub last_in : Option ℕ → ℕ → exact.Last
last_in None timestamp = exact.no_frame
last_in (Some recv) timestamp = exact.frame recv timestamp

-- what the accepted calls give: the differences, the last frame and the grace
pub record Exact : Type 0 where
  pub differences : List ℤ
  pub last : exact.Last
  pub grace : exact.Grace

abbrev pub exact_of : List ReceiverCall → Exact
exact_of l = record { differences = exact.differences l; last = exact.last_after l; grace = exact.grace_after l }

abbrev pub exact_by : exact.Event → Exact → Exact
exact_by x y =
    record {
      differences = exact.differences_by x y.grace y.last y.differences;
      last = exact.last_by x y.last;
      grace = exact.grace_by x y.grace;
    }

abbrev exact_new : Exact
exact_new = record { differences = []; last = exact.no_frame; grace = exact.no_grace }

abbrev scaled : List ℤ → ℕ
scaled ds = scaled_of (map nat_abs ds)

pub record Tied (y : Exact) (s : ReceiverState) : Type 0 where
  pub jitter : as_unsigned s.jitter.jitter_q4 ≡ scaled y.differences
  pub last : last_in s.last_recv_ms s.last_sender_timestamp ≡ y.last
  pub grace : grace_in s.rekey_jitter_grace_until_ms ≡ y.grace

-- ---- a new record
started_tied : (window ms : ℕ) → Tied exact_new (started_at window ms)
started_tied window ms = record { jitter = refl; last = refl; grace = refl }

pub new_tied : (k : ReceiverNew) → Tied (exact_of []) (new_receiver k)
unfolding new_of exact.differences exact.last_after exact.grace_after
new_tied (ReceiverNew.new window) = started_tied window _
new_tied ReceiverNew.default = started_tied _ _
new_tied (ReceiverNew.new_with_cold_start window ms) = go (eqb (cold_start_refusal ms) 0)
  where
    go : (b : Bool) → Tied exact_new (cond b (started_at window ms) fresh)
    go true = started_tied window ms
    go false = started_tied _ _

-- ---- a frame
-- a difference more is a step more
scaled_more : (ds : List ℤ) (d : ℤ) → scaled (ds ++ d ∷ []) ≡ jitter_step (scaled ds) (nat_abs d)
scaled_more ds d = ap scaled_of (map-append nat_abs ds (d ∷ [])) ∙ foldl-append jitter_step 0 (map nat_abs ds) (nat_abs d ∷ [])

-- the step that a frame's difference makes, from the frame before; without one there is none
step_tied : (recv : Option ℕ) (before timestamp now : ℕ) (j : JitterEstimator) (ds : List ℤ) → as_unsigned j.jitter_q4 ≡ scaled ds →
    as_unsigned (jitter_after j recv before timestamp now).jitter_q4 ≡ scaled (ds ++ exact.difference_from (last_in recv before) now timestamp)
unfolding exact.difference_from stepped
step_tied None before timestamp now j ds h = h ∙ ap scaled (sym (append-nil ds))
step_tied (Some recv) before timestamp now j ds h =
    rw (difference_agrees recv before now timestamp) (ap (λ (n : ℕ). jitter_step n (nat_abs (transit (now - recv) timestamp before))) h ∙ sym (scaled_more ds (transit (now - recv) timestamp before)))

-- counting moves none of it
counted_tied : (y : Exact) (s : ReceiverState) (counter bytes : ℕ) (ce : Bool) → Tied y s → Tied y (counted s counter bytes ce)
unfolding counted
counted_tied y s counter bytes ce h = record { jitter = h.jitter; last = h.last; grace = h.grace }

sampled_tied : (y : Exact) (s : ReceiverState) (timestamp now : ℕ) → Tied y s →
    Tied (exact_by (exact.sampled timestamp now) y) (with_sample s timestamp now true)
unfolding with_sample pushes timing_sampled echo_if_sampled exact.differences_by exact.last_by exact.grace_by
sampled_tied y s timestamp now h =
    rw (← h.grace, ← h.last, grace_agrees s.rekey_jitter_grace_until_ms now) (go (in_grace s.rekey_jitter_grace_until_ms now))
  where
    go : (b : Bool) →
        Tied
        (record {
          differences = cond b y.differences (y.differences ++ exact.difference_from (last_in s.last_recv_ms s.last_sender_timestamp) now timestamp);
          last = exact.frame now timestamp;
          grace = cond b (grace_in s.rekey_jitter_grace_until_ms) exact.no_grace;
        })
        (cond (not b) (timing_sampled s timestamp now) (echo_if_sampled s timestamp now true))
    go true = record { jitter = h.jitter; last = refl; grace = refl }
    go false = record { jitter = step_tied s.last_recv_ms s.last_sender_timestamp timestamp now s.jitter y.differences h.jitter; last = refl; grace = refl }

-- frame_of after its questions
frame_tied : (y : Exact) (s : ReceiverState) (f : Frame) (sampled : Bool) → (framing f sampled s).refusal ≡ 0 → Tied y s →
    Tied (exact_by (exact.event_of (ReceiverCall.record_frame f sampled)) y) (framing f sampled s).state
unfolding frame_of with_sample pushes echo_if_sampled exact.differences_by exact.last_by exact.grace_by
frame_tied y s f true e h =
    rw e (sampled_tied y (counted s f.counter f.bytes f.ce) f.timestamp f.now (counted_tied y s f.counter f.bytes f.ce h))
frame_tied y s f false e h = rw e (counted_tied y s f.counter f.bytes f.ce h)

-- ---- the other calls
built_tied : (y : Exact) (s : ReceiverState) (trend : ℤ) (now : ℕ) → Tied y s → Tied y (built s trend now).state
unfolding built
built_tied y s trend now h = go s.interval_has_data
  where
    go : (b : Bool) → Tied y (cond b (some_built s trend now) (none_built 0 s)).state
    go true = record { jitter = h.jitter; last = h.last; grace = h.grace }
    go false = h

report_tied : (y : Exact) (s : ReceiverState) (times : List ℕ) (delays : List ℤ) (now : ℕ) → Tied y s → Tied y (built_of s times delays now).state
unfolding built_of
report_tied y s times delays now h = go (eqb (report_refusal s times delays now) 0) _
  where
    go : (b : Bool) (trend : ℤ) → Tied y (cond b (built s trend now) (none_built (report_refusal s times delays now) s)).state
    go true trend = built_tied y s trend now h
    go false trend = h

paced_tied : (y : Exact) (s : ReceiverState) (p : Paced) → Tied y s → Tied y (with_pace s p).state
paced_tied y s p h = record { jitter = h.jitter; last = h.last; grace = h.grace }

rekeyed_tied : (y : Exact) (s : ReceiverState) (now : ℕ) → Tied (exact_by (exact.rekeyed now) y) (rekeyed s (now + grace))
unfolding rekeyed exact.differences_by exact.last_by exact.grace_by
rekeyed_tied y s now = record { jitter = refl; last = refl; grace = refl }

-- every accepted call
pub tied_next : (c : ReceiverCall) (l : List ReceiverCall) (s : ReceiverState) → (receiver_step c s).refusal ≡ 0 → Tied (exact_of l) s → Tied (exact_of (c ∷ l)) (receiver_step c s).state
unfolding receiver_step rekey_of from_srtt_of with_bounds_of exact.differences exact.last_after exact.grace_after exact.differences_by exact.last_by exact.grace_by
tied_next (ReceiverCall.record_frame f sampled) l s e h = frame_tied (exact_of l) s f sampled e h
tied_next (ReceiverCall.record_recv f) l s e h = frame_tied (exact_of l) s f true e h
tied_next (ReceiverCall.reset_for_rekey now) l s e h = rw e (rekeyed_tied (exact_of l) s now)
tied_next (ReceiverCall.build_report times delays now) l s e h = report_tied (exact_of l) s times delays now h
tied_next (ReceiverCall.update_report_interval_from_srtt srtt) l s e h = paced_tied (exact_of l) s (from_srtt (keeps_the_rule s) 1 s.report_interval_ms s.srtt_sample_count srtt) h
tied_next (ReceiverCall.update_report_interval_with_bounds srtt lo hi) l s e h = paced_tied (exact_of l) s (with_bounds (keeps_the_rule s) 1 s.report_interval_ms s.srtt_sample_count srtt lo hi) h
tied_next (ReceiverCall.ask q) l s e h = h

-- ---- a report
module _ (j : JitterEstimator) (h : jitters.keeps_the_rule j ≡ true) where
  unrefused : jitters.refusal_of j ≡ 0
  unfolding jitters.refusal_of
  unrefused = none_refuses (question 1 (jitters.keeps_the_rule j) ∷ []) (h, tt)

  -- what is reported of a lawful estimator, and that it fits 32 bits
  reported_value : (jitter_us_of j).value ≡ reported (as_unsigned j.jitter_q4)
  unfolding jitter_us_of
  reported_value = rw unrefused

  reported_fits : (jitter_us_of j).value < 2 ^ 32
  reported_fits = let k = scaled_at_most j h in let e = reported_value in omega arith

-- the report that a receiver builds has the jitter that its estimator reports
built_jitter : (s : ReceiverState) (trend : ℤ) (now : ℕ) (rr : ReceiverReport) → ◌≡◌ {A = Answer} (Answer.receiver_report (built s trend now).some (built s trend now).report) (Answer.receiver_report true rr) →
    rr.jitter ≡ (jitter_us_of s.jitter).value
unfolding built report_of
built_jitter s trend now rr e = go s.interval_has_data e
  where
    go : (b : Bool) →
        ◌≡◌ {A = Answer} (Answer.receiver_report (cond b (some_built s trend now) (none_built 0 s)).some (cond b (some_built s trend now) (none_built 0 s)).report) (Answer.receiver_report true rr) →
        rr.jitter ≡ (jitter_us_of s.jitter).value
    go true e = let same : (some_built s trend now).report ≡ rr = cc in ap (λ (r : ReceiverReport). r.jitter) (sym same)
    go false e = let z : ◌≡◌ {A = ℕ} 0 1 = cc in absurd (omega arith)

pub report_near : (s : ReceiverState) (times : List ℕ) (delays : List ℤ) (now : ℕ) (l : List ReceiverCall) (rr : ReceiverReport) → Tied (exact_of l) s →
    ◌≡◌ {A = Answer} (Answer.receiver_report (built_of s times delays now).some (built_of s times delays now).report) (Answer.receiver_report true rr) →
    (rr.jitter < 2 ^ 32) × ReportedNear (jitter_average l) rr.jitter
unfolding built_of
report_near s times delays now l rr t e = go (eqb (report_refusal s times delays now) 0) (trend_of (window s.owd_trend times delays)) (eqb-true (report_refusal s times delays now) 0) e
  where
    lawful : report_refusal s times delays now ≡ 0 → jitters.keeps_the_rule s.jitter ≡ true
    lawful r = (kept s (report_asked s times delays now r).0).jitter

    go : (b : Bool) (trend : ℤ) → (b ≡ true → report_refusal s times delays now ≡ 0) →
        ◌≡◌ {A = Answer} (Answer.receiver_report (cond b (built s trend now) (none_built (report_refusal s times delays now) s)).some (cond b (built s trend now) (none_built (report_refusal s times delays now) s)).report) (Answer.receiver_report true rr) →
        (rr.jitter < 2 ^ 32) × ReportedNear (jitter_average l) rr.jitter
    go true trend f e =
        let h = lawful (f refl) in
        let same = built_jitter s trend now rr e in
        (rw same (reported_fits s.jitter h), rw (same, reported_value s.jitter h, t.jitter) (reported_of_near (map nat_abs (exact.differences l))))
    go false trend f e = let z : ◌≡◌ {A = ℕ} 0 1 = cc in absurd (omega arith)
