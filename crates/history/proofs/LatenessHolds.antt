-- THE GREATEST LATENESS OF AN INTERVAL, by the list of calls and by one call; and no other answer depends on it.
use mathlib.Core.Path.{◌≡◌, refl, sym}
use mathlib.Core.Logic.{◌≢◌}
use mathlib.Core.Bool.{Bool, true, false, cond, true≢false}
use mathlib.Core.List.{List, [], ◌∷◌}
use Prim.Native.Nat.{ℕ, ◌+◌}
use native.Mathlib.Omega.{arith}
use lib.Dec.{eqb}
use lib.IntN.{ℤ}
use Rattle.refusals.proofs.PickedByTest.{picked}
use Rattle.refusals.proofs.FirstNoFound.{none_refuses}
use Rattle.refusals.specs.Answers.{answer}
use Rattle.refusals.specs.Questions.{question}
use Rattle.gaps.specs.Gaps as gaps
use Rattle.receiver.specs.State.{grace, keeps_the_rule, refusal_of, clock_refusal, rekeyed, rekey_of}
use Rattle.receiver.specs.Frames.{counted, timing_sampled, echo_if_sampled, pushes, with_sample, frame_refusal, frame_of, frame_times, frame_delays, slot_for, times_after, delays_after}
use Rattle.receiver.specs.Reports.{none_built, report_of, built, report_refusal, built_of}
use Rattle.receiver.specs.Pacing.{from_srtt_of, with_bounds_of, is_due, should_send_of}
use Rattle.receiver.specs.declared.ReceiverState.{ReceiverState}
use Rattle.receiver.specs.Reports.{ReceiverReportBuilt}
use Rattle.history.specs.Answers.{Answer}
use Rattle.history.specs.ReceiverCalls.{ReceiverQuestion, receiver_told, Frame, ReceiverCall, framing, receiver_step}
use Rattle.history.specs.Ends.{End, EndCall, on_receiver, end_step, Log, at}
use Rattle.history.specs.Lateness as late
use Rattle.history.specs.Lateness.{behind, greatest, later}
use Rattle.history.proofs.RefusedStays.{receiver_stays}
use Rattle.history.proofs.LatenessTied.{raised}
use Rattle.history.proofs.NoCreepHolds.{held, every}

-- ---- the list
offered : (c : EndCall) (x : Log) (e : End) → keeps_the_rule e.receiver ≡ true → e.receiver.interval_max_lateness ≡ greatest (late.latenesses x.receiver) →
    c ≡ on_receiver late.ask_lateness → late.Offered x.receiver (end_step c e).refusal (end_step c e).answer
unfolding receiver_step receiver_told refusal_of answer
offered c x e rule lateness ask =
    rw ask (let none = none_refuses (question 1 (keeps_the_rule e.receiver) ∷ []) (rule, tt) in record { accepted = none; value = rw (none, lateness) refl })

pub kept_holds : late.KeptHolds
kept_holds k h fits =
    record {
      kept = λ s. (held k h fits s).receiver.lateness.lateness;
      offered = every k h fits late.OfferedHolds
          (λ c x w e. let s = c.side in offered c.call (at s x) (at s w) (e s).receiver.lawful.rule (e s).receiver.lateness.lateness);
    }

-- computed: of counters 9, 5 and 7, the latest call first, 10 was expected for the last two; of a report between them and 9 once more, the last alone counts
came : ℕ → ReceiverCall
came counter = ReceiverCall.record_recv (record { times = []; delays = []; counter = counter; timestamp = 0; bytes = 0; ce = false; now = 0 })

two_late : late.latenesses (came 7 ∷ came 5 ∷ came 9 ∷ []) ≡ 3 ∷ 5 ∷ []
unfolding late.latenesses late.highest_after behind came
two_late = refl

one_since : greatest (late.latenesses (came 9 ∷ ReceiverCall.build_report [] [] 0 ∷ came 5 ∷ came 9 ∷ [])) ≡ 1
unfolding late.latenesses late.highest_after behind greatest came
one_since = refl

-- ---- one call
frame_raised : (s : ReceiverState) (f : Frame) (sampled : Bool) → (framing f sampled s).refusal ≡ 0 →
    (framing f sampled s).state.interval_max_lateness ≡ greatest (s.interval_max_lateness ∷ behind (late.due_in s.gap_tracker.expected_next) f.counter)
unfolding frame_of with_sample timing_sampled echo_if_sampled counted gaps.observed
frame_raised s f sampled e =
    let after = counted s f.counter f.bytes f.ce in
    let up = raised s.gap_tracker.expected_next f.counter s.interval_max_lateness in
    rw e (picked Up (pushes after f.now sampled) (λ y. up) (λ n. picked Up sampled (λ y. up) (λ z. up)))
  where
    Up : ReceiverState → Type 0
    Up u = u.interval_max_lateness ≡ greatest (s.interval_max_lateness ∷ behind (late.due_in s.gap_tracker.expected_next) f.counter)

-- a report that is made zeroes it; where none is, the record is as it was
abbrev Ended : ReceiverState → ReceiverReportBuilt → Type 0
Ended s b = (b.some ≡ true → b.state.interval_max_lateness ≡ 0) × (b.some ≡ false → b.state ≡ s)

none_ended : (s : ReceiverState) (n : ℕ) → Ended s (none_built n s)
none_ended s n = (λ e. absurd (true≢false (sym e)), λ e. refl)

report_ended : (s : ReceiverState) (times : List ℕ) (delays : List ℤ) (now : ℕ) → Ended s (built_of s times delays now)
unfolding built_of built
report_ended s times delays now =
    picked (Ended s) (eqb (report_refusal s times delays now) 0)
    (λ y. picked (Ended s) s.interval_has_data (λ d. (λ e. refl, λ e. absurd (true≢false e))) (λ d. none_ended s 0))
    (λ n. none_ended s (report_refusal s times delays now))

building : (s : ReceiverState) (times : List ℕ) (delays : List ℤ) (now : ℕ) → late.Building times delays now s
unfolding receiver_step
building s times delays now =
    let b = report_ended s times delays now in
    record { made = λ rr e. b.0 cc; none = λ rr e. b.1 cc }

other : (s : ReceiverState) (c : ReceiverCall) → late.event_of c ≡ late.no_event → (receiver_step c s).state.interval_max_lateness ≡ s.interval_max_lateness
unfolding receiver_step from_srtt_of with_bounds_of
other s (ReceiverCall.record_frame f sampled) e = let z : ◌≡◌ {A = ℕ} 0 1 = cc in absurd (omega arith)
other s (ReceiverCall.record_recv f) e = let z : ◌≡◌ {A = ℕ} 0 1 = cc in absurd (omega arith)
other s (ReceiverCall.reset_for_rekey now) e = let z : ◌≡◌ {A = ℕ} 0 1 = cc in absurd (omega arith)
other s (ReceiverCall.build_report times delays now) e = let z : ◌≡◌ {A = ℕ} 0 1 = cc in absurd (omega arith)
other s (ReceiverCall.update_report_interval_from_srtt srtt) e = refl
other s (ReceiverCall.update_report_interval_with_bounds srtt lo hi) e = refl
other s (ReceiverCall.ask q) e = refl

rekey_zeroed : (s : ReceiverState) (now : ℕ) → (rekey_of s now).refusal ≡ 0 → (rekey_of s now).state.interval_max_lateness ≡ 0
unfolding rekey_of rekeyed
rekey_zeroed s now e = rw e refl

pub moves_hold : late.MovesHold
unfolding receiver_step
moves_hold s =
    record {
      frame = λ f sampled e. frame_raised s f sampled e;
      received = λ f e. frame_raised s f true e;
      report = building s;
      rekey = rekey_zeroed s;
      other = other s;
      refused = λ c. receiver_stays c s;
    }

-- ---- no other answer depends on it
abbrev Alike : ReceiverState → ReceiverState → Type 0
Alike s t = later s 0 ≡ later t 0

record BuiltAlike (a b : ReceiverReportBuilt) : Type 0 where
  refusal : a.refusal ≡ b.refusal
  some : a.some ≡ b.some
  report : a.report ≡ b.report
  state : Alike a.state b.state

either_built : (b : Bool) {x y z w : ReceiverReportBuilt} → BuiltAlike x z → BuiltAlike y w → BuiltAlike (cond b x y) (cond b z w)
either_built true p q = p
either_built false p q = q

counted_later : (s : ReceiverState) (n counter bytes : ℕ) (ce : Bool) → counted (later s n) counter bytes ce ≡ later (counted s counter bytes ce) (counted (later s n) counter bytes ce).interval_max_lateness
unfolding counted
counted_later s n counter bytes ce = refl

sampled_alike : (s : ReceiverState) (n timestamp now : ℕ) (sampled : Bool) → Alike (with_sample (later s n) timestamp now sampled) (with_sample s timestamp now sampled)
unfolding with_sample pushes echo_if_sampled timing_sampled
sampled_alike s n timestamp now sampled = go (pushes s now sampled) sampled
  where
    go : (b c : Bool) → Alike (cond b (timing_sampled (later s n) timestamp now) (echo_if_sampled (later s n) timestamp now c)) (cond b (timing_sampled s timestamp now) (echo_if_sampled s timestamp now c))
    go true c = refl
    go false true = refl
    go false false = refl

module _ (s : ReceiverState) (n : ℕ) where
  refused_alike : (f : Frame) (sampled : Bool) → (framing f sampled (later s n)).refusal ≡ (framing f sampled s).refusal
  unfolding frame_of frame_refusal keeps_the_rule pushes
  refused_alike f sampled = refl

  frame_alike : (f : Frame) (sampled : Bool) → Alike (framing f sampled (later s n)).state (framing f sampled s).state
  unfolding frame_of
  frame_alike f sampled = rw (refused_alike f sampled) (go (eqb (framing f sampled s).refusal 0))
    where
      go : (b : Bool) →
          Alike (cond b (with_sample (counted (later s n) f.counter f.bytes f.ce) f.timestamp f.now sampled) (later s n)) (cond b (with_sample (counted s f.counter f.bytes f.ce) f.timestamp f.now sampled) s)
      go true = rw (counted_later s n f.counter f.bytes f.ce) (sampled_alike (counted s f.counter f.bytes f.ce) _ f.timestamp f.now sampled)
      go false = refl

  built_alike : (times : List ℕ) (delays : List ℤ) (now : ℕ) → BuiltAlike (built_of (later s n) times delays now) (built_of s times delays now)
  unfolding built_of report_refusal keeps_the_rule built report_of
  built_alike times delays now =
      either_built (eqb (report_refusal s times delays now) 0)
      (either_built s.interval_has_data (record { refusal = refl; some = refl; report = refl; state = refl }) (record { refusal = refl; some = refl; report = refl; state = refl }))
      (record { refusal = refl; some = refl; report = refl; state = refl })

  rekey_alike : (now : ℕ) → Alike (rekey_of (later s n) now).state (rekey_of s now).state
  unfolding rekey_of clock_refusal keeps_the_rule rekeyed
  rekey_alike now = go (eqb (clock_refusal s now) 0)
    where
      go : (b : Bool) → Alike (cond b (rekeyed (later s n) (now + grace)) (later s n)) (cond b (rekeyed s (now + grace)) s)
      go true = refl
      go false = refl

  asked : (q : ReceiverQuestion) → ReceiverCall.ask q ≢ late.ask_lateness → late.Untouched (ReceiverCall.ask q) s n
  unfolding receiver_step receiver_told refusal_of keeps_the_rule should_send_of clock_refusal is_due
  asked (ReceiverQuestion.should_send_report now) ne = record { refusal = refl; answer = refl; state = refl }
  asked ReceiverQuestion.keeps_rule ne = record { refusal = refl; answer = refl; state = refl }
  asked ReceiverQuestion.cumulative_packets_recv ne = record { refusal = refl; answer = refl; state = refl }
  asked ReceiverQuestion.cumulative_bytes_recv ne = record { refusal = refl; answer = refl; state = refl }
  asked ReceiverQuestion.highest_counter ne = record { refusal = refl; answer = refl; state = refl }
  asked ReceiverQuestion.jitter_us ne = record { refusal = refl; answer = refl; state = refl }
  asked ReceiverQuestion.report_interval_ms ne = record { refusal = refl; answer = refl; state = refl }
  asked ReceiverQuestion.last_recv_ms ne = record { refusal = refl; answer = refl; state = refl }
  asked ReceiverQuestion.ecn_ce_count ne = record { refusal = refl; answer = refl; state = refl }
  asked ReceiverQuestion.interval_max_lateness ne = absurd (ne refl)

  untouched : (c : ReceiverCall) → c ≢ late.ask_lateness → late.Untouched c s n
  unfolding receiver_step frame_of frame_times frame_delays times_after delays_after slot_for frame_refusal keeps_the_rule pushes rekey_of clock_refusal rekeyed from_srtt_of with_bounds_of
  untouched (ReceiverCall.record_frame f sampled) ne = record { refusal = refl; answer = refl; state = frame_alike f sampled }
  untouched (ReceiverCall.record_recv f) ne = record { refusal = refl; answer = refl; state = frame_alike f true }
  untouched (ReceiverCall.reset_for_rekey now) ne = record { refusal = refl; answer = refl; state = rekey_alike now }
  untouched (ReceiverCall.build_report times delays now) ne =
      let b = built_alike times delays now in
      record { refusal = b.refusal; answer = λ i. Answer.receiver_report (b.some i) (b.report i); state = b.state }
  untouched (ReceiverCall.update_report_interval_from_srtt srtt) ne = record { refusal = refl; answer = refl; state = refl }
  untouched (ReceiverCall.update_report_interval_with_bounds srtt lo hi) ne = record { refusal = refl; answer = refl; state = refl }
  untouched (ReceiverCall.ask q) ne = asked q ne

pub untouched_holds : late.UntouchedHolds
untouched_holds c ne s n = untouched s n c ne
