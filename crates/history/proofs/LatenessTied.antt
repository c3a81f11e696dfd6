-- A receiver's greatest lateness is that of the frames which the calls on it brought since the last report or rekey, and the expected counter follows the highest.
use Rattle.std.specs.Prelude.{None, Option, Some}
use mathlib.Core.Path.{◌≡◌, refl, ap, ◌∙◌}
use mathlib.Core.Bool.{Bool, true, false, cond, true≢false}
use mathlib.Core.List.{List, [], ◌∷◌, ◌++◌}
use Prim.Native.Nat.{ℕ, ◌+◌, ◌-◌, ◌<◌, ◌^◌, min, max}
use native.Mathlib.Omega.{arith}
use lib.Dec.{ltb, eqb}
use lib.IntN.{ℤ}
use borrow.Author.Tests.{ltb-true, eqb-false}
use Rattle.refusals.proofs.PickedByTest.{picked}
use Rattle.algorithms.specs.Owd.{window}
use Rattle.algorithms.specs.OwdTrend.{trend_of}
use Rattle.gaps.specs.Gaps as gaps
use Rattle.gaps.specs.Stats.{stats_of}
use Rattle.gaps.proofs.DueFollows.{due_follows}
use Rattle.gaps.specs.declared.Arrival.TheVariants.{Gap, Behind, InSequence}
use Rattle.gaps.specs.declared.GapTracker.{GapTracker}
use Rattle.pace.specs.Updates.{cold_start_refusal, from_srtt, with_bounds}
use Rattle.pace.specs.Updates.{Paced}
use Rattle.receiver.specs.State.{keeps_the_rule, started_at, new_of, rekeyed, rekey_of}
use Rattle.receiver.specs.Frames.{late_by, counted, timing_sampled, echo_if_sampled, pushes, with_sample, frame_of}
use Rattle.receiver.specs.Reports.{some_built, none_built, built, report_refusal, built_of}
use Rattle.receiver.specs.Pacing.{with_pace, from_srtt_of, with_bounds_of}
use Rattle.receiver.specs.declared.ReceiverState.{ReceiverState}
use Rattle.history.specs.ReceiverCalls.{ReceiverNew, new_receiver, Frame, ReceiverCall, framing, receiver_step}
use Rattle.history.specs.Lateness as late
use Rattle.history.specs.Lateness.{behind, greatest}

-- ---- one frame
greatest_append : (ms ns : List ℕ) → greatest (ms ++ ns) ≡ max (greatest ms) (greatest ns)
unfolding greatest
greatest_append [] ns = omega arith
greatest_append (m ∷ ms) ns = let e = greatest_append ms ns in omega arith

-- it raises the greatest so far to how far it is behind
pub raised : (o : Option ℕ) (counter most : ℕ) → max most (late_by (gaps.arrival_at o counter)) ≡ greatest (most ∷ behind (late.due_in o) counter)
unfolding greatest behind gaps.arrival_after
raised None counter most = omega arith
raised (Some expected) counter most = go (ltb expected counter) (ltb counter expected) (ltb-true expected counter) (ltb-true counter expected)
  where
    go : (above below : Bool) → (above ≡ true → expected < counter) → (below ≡ true → counter < expected) →
        max most (late_by (cond above (Gap (counter - expected)) (cond below (Behind (expected - counter)) InSequence))) ≡ greatest (most ∷ cond below ((expected - counter) ∷ []) [])
    go true true a b = let p = a refl in let q = b refl in absurd (omega arith)
    go true false a b = omega arith
    go false true a b = omega arith
    go false false a b = omega arith

raised_more : (o : Option ℕ) (counter most : ℕ) (ns : List ℕ) → most ≡ greatest ns → max most (late_by (gaps.arrival_at o counter)) ≡ greatest (behind (late.due_in o) counter ++ ns)
unfolding greatest
raised_more o counter most ns e = let r = raised o counter most in let a = greatest_append (behind (late.due_in o) counter) ns in omega arith

-- the counter expected next follows the highest
due_next : (o : Option ℕ) (h : late.Highest) (t : GapTracker) (counter : ℕ) → late.due_in o ≡ late.due_after h →
    late.due_in (gaps.tracked_after o t counter).expected_next ≡ late.due_after (late.highest_by (late.arrived counter) h)
due_next None late.no_frame t counter e = refl
due_next None (late.highest n) t counter e = let z : ◌≡◌ {A = ℕ} 0 1 = cc in absurd (omega arith)
due_next (Some expected) late.no_frame t counter e = let z : ◌≡◌ {A = ℕ} 0 1 = cc in absurd (omega arith)
due_next (Some expected) (late.highest n) t counter e =
    let same : expected ≡ min (n + 1) (2 ^ 64 - 1) = cc in
    ap late.due (ap (λ (m : ℕ). gaps.next_after m counter) same ∙ due_follows n counter)

-- a report leaves the expected counter
stats_due : (t : GapTracker) → (stats_of t).tracker.expected_next ≡ t.expected_next
unfolding stats_of gaps.burst_finished
stats_due t = picked (λ (u : GapTracker). u.expected_next ≡ t.expected_next) t.in_burst (λ e. refl) (λ e. refl)

-- ---- what ties a record to the calls on it
-- what the accepted calls give: the highest counter, and how far behind each frame of the interval was
pub record Exact : Type 0 where
  pub highest : late.Highest
  pub latenesses : List ℕ

abbrev pub exact_of : List ReceiverCall → Exact
exact_of l = record { highest = late.highest_after l; latenesses = late.latenesses l }

abbrev exact_by : late.Event → Exact → Exact
exact_by x y = record { highest = late.highest_by x y.highest; latenesses = late.latenesses_by x (late.due_after y.highest) y.latenesses }

pub record Tied (y : Exact) (s : ReceiverState) : Type 0 where
  pub due : late.due_in s.gap_tracker.expected_next ≡ late.due_after y.highest
  pub lateness : s.interval_max_lateness ≡ greatest y.latenesses
  -- where no frame has come since the last report, none was behind
  pub idle : s.interval_has_data ≡ false → s.interval_max_lateness ≡ 0

started_tied : (window ms : ℕ) → Tied (record { highest = late.no_frame; latenesses = [] }) (started_at window ms)
unfolding greatest
started_tied window ms = record { due = refl; lateness = refl; idle = λ e. refl }

pub new_tied : (k : ReceiverNew) → Tied (exact_of []) (new_receiver k)
unfolding new_of late.highest_after late.latenesses
new_tied (ReceiverNew.new window) = started_tied window _
new_tied ReceiverNew.default = started_tied _ _
new_tied (ReceiverNew.new_with_cold_start window ms) = picked (Tied (exact_of [])) (eqb (cold_start_refusal ms) 0) (λ e. started_tied window ms) (λ e. started_tied _ _)

-- ---- a frame
counted_tied : (y : Exact) (s : ReceiverState) (counter bytes : ℕ) (ce : Bool) → Tied y s → Tied (exact_by (late.arrived counter) y) (counted s counter bytes ce)
unfolding counted gaps.observed
counted_tied y s counter bytes ce h =
    let o = s.gap_tracker.expected_next in
    record {
      due = due_next o y.highest s.gap_tracker counter h.due;
      lateness = raised_more o counter s.interval_max_lateness y.latenesses h.lateness ∙ ap (λ (d : late.Due). greatest (behind d counter ++ y.latenesses)) h.due;
      idle = λ e. absurd (true≢false e);
    }

-- sampling moves none of it
sampled_tied : (y : Exact) (s : ReceiverState) (timestamp now : ℕ) (sampled : Bool) → Tied y s → Tied y (with_sample s timestamp now sampled)
unfolding with_sample timing_sampled echo_if_sampled
sampled_tied y s timestamp now sampled h =
    picked (Tied y) (pushes s now sampled) (λ e. record { due = h.due; lateness = h.lateness; idle = h.idle })
    (λ e. picked (Tied y) sampled (λ z. record { due = h.due; lateness = h.lateness; idle = h.idle }) (λ z. h))

frame_tied : (y : Exact) (s : ReceiverState) (f : Frame) (sampled : Bool) → (framing f sampled s).refusal ≡ 0 → Tied y s → Tied (exact_by (late.arrived f.counter) y) (framing f sampled s).state
unfolding frame_of
frame_tied y s f sampled e h =
    rw e (sampled_tied (exact_by (late.arrived f.counter) y) (counted s f.counter f.bytes f.ce) f.timestamp f.now sampled (counted_tied y s f.counter f.bytes f.ce h))

-- ---- the other calls
built_tied : (y : Exact) (s : ReceiverState) (trend : ℤ) (now : ℕ) → Tied y s → Tied (exact_by late.reported y) (built s trend now).state
unfolding built greatest
built_tied y s trend now h = go s.interval_has_data refl
  where
    go : (b : Bool) → s.interval_has_data ≡ b → Tied (exact_by late.reported y) (cond b (some_built s trend now) (none_built 0 s)).state
    go true e = record { due = rw (stats_due s.gap_tracker) h.due; lateness = refl; idle = λ z. refl }
    go false e = record { due = h.due; lateness = h.idle e; idle = h.idle }

report_tied : (y : Exact) (s : ReceiverState) (times : List ℕ) (delays : List ℤ) (now : ℕ) → (built_of s times delays now).refusal ≡ 0 → Tied y s → Tied (exact_by late.reported y) (built_of s times delays now).state
unfolding built_of
report_tied y s times delays now e h = go (eqb (report_refusal s times delays now) 0) (trend_of (window s.owd_trend times delays)) (eqb-false (report_refusal s times delays now) 0) e
  where
    go : (b : Bool) (trend : ℤ) → (b ≡ false → report_refusal s times delays now ≡ 0 → ⊥) → (cond b (built s trend now) (none_built (report_refusal s times delays now) s)).refusal ≡ 0 →
        Tied (exact_by late.reported y) (cond b (built s trend now) (none_built (report_refusal s times delays now) s)).state
    go true trend n e = built_tied y s trend now h
    go false trend n e = absurd (n refl e)

rekeyed_tied : (y : Exact) (s : ReceiverState) (deadline : ℕ) → Tied (exact_by late.rekeyed y) (rekeyed s deadline)
unfolding rekeyed greatest
rekeyed_tied y s deadline = record { due = refl; lateness = refl; idle = λ e. refl }

paced_tied : (y : Exact) (s : ReceiverState) (p : Paced) → Tied y s → Tied y (with_pace s p).state
paced_tied y s p h = record { due = h.due; lateness = h.lateness; idle = h.idle }

-- every accepted call
pub tied_next : (c : ReceiverCall) (l : List ReceiverCall) (s : ReceiverState) → (receiver_step c s).refusal ≡ 0 → Tied (exact_of l) s → Tied (exact_of (c ∷ l)) (receiver_step c s).state
unfolding receiver_step rekey_of from_srtt_of with_bounds_of late.highest_after late.latenesses
tied_next (ReceiverCall.record_frame f sampled) l s e h = frame_tied (exact_of l) s f sampled e h
tied_next (ReceiverCall.record_recv f) l s e h = frame_tied (exact_of l) s f true e h
tied_next (ReceiverCall.reset_for_rekey now) l s e h = rw e (rekeyed_tied (exact_of l) s _)
tied_next (ReceiverCall.build_report times delays now) l s e h = report_tied (exact_of l) s times delays now e h
tied_next (ReceiverCall.update_report_interval_from_srtt srtt) l s e h = paced_tied (exact_of l) s (from_srtt (keeps_the_rule s) 1 s.report_interval_ms s.srtt_sample_count srtt) h
tied_next (ReceiverCall.update_report_interval_with_bounds srtt lo hi) l s e h = paced_tied (exact_of l) s (with_bounds (keeps_the_rule s) 1 s.report_interval_ms s.srtt_sample_count srtt lo hi) h
tied_next (ReceiverCall.ask q) l s e h = h
