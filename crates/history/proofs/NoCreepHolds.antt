-- LINK FIGURES DON'T CREEP: the statement of specs/NoCreep, for every list of calls on two new ends.
use mathlib.Core.Path.{◌≡◌, refl, ◌∙◌}
use mathlib.Core.Bool.{Bool, true, ◌&&◌}
use mathlib.Core.List.{List}
use Prim.Native.Nat.{ℕ, zero, suc}
use native.Mathlib.Omega.{arith}
use lib.IntN.{pos}
use lib.Ieee.{Float, binary64, le, of_int}
use Rattle.numbers.specs.RoundTrip.{estimate_of}
use Rattle.numbers.proofs.RoundTripStaysTied.{smoothed_milliseconds, variation_milliseconds}
use Rattle.refusals.proofs.Clauses.{left, right}
use Rattle.refusals.specs.Ranges.{ratio_ok, etx_ok}
use Rattle.algorithms.specs.Srtt.{estimate_in}
use Rattle.algorithms.specs.declared.srtt.SrttEstimator.{SrttEstimator}
use Rattle.metrics.specs.declared.MmpMetrics.{MmpMetrics}
use Rattle.metrics.proofs.QuestionsAnswered.{kept}
use Rattle.history.specs.Run.{Entry, All, entry, fits, not_full, calls_left, as_they_were, restored}
use Rattle.history.specs.ExactRoundTrip as exact
use Rattle.history.specs.Meant.{History, Reached}
use Rattle.history.specs.Ends.{End, EndNew, EndCall, on_sender, on_receiver, on_metrics, end_step, Log, Side, Two, at, put, Call, ends}
use Rattle.history.specs.Asked.{capacity_of, put_to}
use Rattle.history.specs.Paper.{greatest_etx}
use Rattle.history.specs.NoCreep.{begun, none_yet, written, reached, accepted, NotByRule, AsAsked, recorded, Between, FiguresHold, ReportHolds, end_stale, unless_refused, stale_entry, one_more, none_struck, entries_left, struck_out, restore, NoCreepHolds}
use Rattle.history.proofs.Runs.{tied_run, all_run, strike_run}
use Rattle.history.proofs.RefusedStays.{stays}
use Rattle.history.proofs.Asked.{Lawful}
use Rattle.history.proofs.SenderAsked.{sender_lawful}
use Rattle.history.proofs.ReceiverAsked.{receiver_lawful}
use Rattle.history.proofs.MetricsAsked.{metrics_lawful}
use Rattle.history.proofs.Held.{Held, new_held, held_next}
use Rattle.history.proofs.ReachedHolds.{reached_tied, reached_lawful, kinds_hold, reached_run}
use Rattle.history.proofs.ReportsBuilt.{end_builds_near}
use Rattle.history.proofs.StruckOut.{Like, new_like, refusal_alike, answer_alike, state_alike, stale_idle, records_restored}

-- ---- one end: the figures, and the refusals
-- the statement reads an estimator as the step does
recorded_as : (s : SrttEstimator) → recorded s ≡ estimate_in s
unfolding estimate_in
recorded_as s = refl

between : (lo hi : ℕ) (x : Float) → (le (of_int binary64 (pos lo)) x && le x (of_int binary64 (pos hi))) ≡ true → Between lo hi x
between lo hi x h = record { low = left (le (of_int binary64 (pos lo)) x) _ h; high = right (le (of_int binary64 (pos lo)) x) _ h }

ratio_between : (x : Float) → ratio_ok x ≡ true → Between 0 1 x
unfolding of_int
ratio_between x h = between 0 1 x h

etx_between : (x : Float) → etx_ok x ≡ true → Between 1 greatest_etx x
unfolding of_int
etx_between x h = between 1 100 x h

figures : {l : History} {m : MmpMetrics} → Reached l m → FiguresHold l m
figures {l} {m} r =
    let rule = kept m (reached_lawful r).rule in
    let same : recorded m.srtt ≡ estimate_of (exact.round_trips l) = recorded_as m.srtt ∙ (reached_tied r).estimate in
    record {
      smoothed = rw same (smoothed_milliseconds (exact.trips_ms l));
      variation = rw same (variation_milliseconds (exact.trips_ms l));
      forward = ratio_between m.delivery_ratio_forward rule.forward;
      reverse = ratio_between m.delivery_ratio_reverse rule.reverse;
      etx = etx_between m.etx rule.etx;
    }

lawful : (c : EndCall) (k : EndNew) (x : Log) (e : End) → Held k x e → Lawful (put_to k c) (end_step c e).refusal
lawful (on_sender c) k x e h = sender_lawful e.sender h.sender.rule c
lawful (on_receiver c) k x e h = receiver_lawful e.receiver h.receiver.lawful.rule (capacity_of k.receiver) h.receiver.capacity c
lawful (on_metrics c) k x e h = metrics_lawful e.metrics (reached_lawful h.metrics).rule c

-- ---- both ends
-- what holds at each side still does when one is set and holds there
put_at : {A B : Type 0} (P : Side → A → B → Type 0) (s : Side) (x : Two A) (w : Two B) {a : A} {b : B} → P s a b → ((t : Side) → P t (at t x) (at t w)) → (t : Side) → P t (at t (put s a x)) (at t (put s b w))
put_at P Side.west x w p h Side.west = p
put_at P Side.west x w p h Side.east = h Side.east
put_at P Side.east x w p h Side.west = h Side.west
put_at P Side.east x w p h Side.east = p

abbrev Alike : Two ℕ → Two End → Two End → Type 0
Alike t w v = (s : Side) → Like (at s t) (at s w) (at s v)

module _ (k : Two EndNew) where
  abbrev pub Both : Two Log → Two End → Type 0
  Both x w = (s : Side) → Held (at s k) (at s x) (at s w)

  both_new : Both none_yet (begun k)
  both_new Side.west = new_held k.west
  both_new Side.east = new_held k.east

  both_next : (c : Call) (x : Two Log) (w : Two End) → ends.Fits c 0 x → (ends.step c w).refusal ≡ 0 → Both x w → Both (ends.note c x) (ends.step c w).state
  both_next c x w f z h = let s = c.side in put_at (λ t. Held (at t k)) s x w (held_next c.call (at s k) (at s x) (at s w) f z (h s)) h

  alike_new : Alike none_struck (begun k) (begun k)
  alike_new Side.west = new_like k.west
  alike_new Side.east = new_like k.east

  alike_idle : (c : Call) (t : Two ℕ) (x : Two Log) (w v : Two End) → Both x w → Alike t w v → stale_entry (entry ends c w x) ≡ true → Alike (one_more c t) (ends.step c w).state v
  alike_idle c t x w v r l st = go (ends.step c w).refusal refl st
    where
      s : Side
      s = c.side

      go : (n : ℕ) → (ends.step c w).refusal ≡ n → unless_refused n (end_stale c.call (at s x)) ≡ true → Alike (one_more c t) (ends.step c w).state v
      go zero z st = put_at (λ u d e. Like d e (at u v)) s t w (stale_idle c.call (at s t) (at s k) (at s x) (at s w) (at s v) (r s) (l s) z st) l
      go (suc n) z st = let z : ◌≡◌ {A = ℕ} 0 1 = cc in absurd (omega arith)

-- ---- the whole
module _ (k : Two EndNew) (h : List Call) (fit : All (fits ends) (written k h)) where
  pub held : Both k (accepted k h) (reached k h)
  held = tied_run ends stays (Both k) (both_next k) h fit (both_new k)

  pub every : (P : Entry ends → Type 0) → ((c : Call) (x : Two Log) (w : Two End) → Both k x w → P (entry ends c w x)) → All P (written k h)
  every P one = all_run ends stays (Both k) (both_next k) P one h fit (both_new k)

  module _ (places : ℕ → Bool) (full : All (not_full ends) (written k h)) where
    struck :
        (restored ends restore (entries_left k places h) (written k (calls_left ends (entries_left k places h))) ≡ as_they_were ends (entries_left k places h))
        × Alike (struck_out k places h) (reached k h) (reached k (calls_left ends (entries_left k places h)))
        × All (fits ends) (written k (calls_left ends (entries_left k places h)))
    struck =
        let r = strike_run ends stays (Both k) (both_next k) one_more stale_entry restore Alike (λ x y. Unit {0})
        (λ c t x w v r l ne. let s = c.side in refusal_alike c.call (at s t) (at s w) (at s v) (l s) ne)
        (λ c t x w v r l z. let s = c.side in answer_alike c.call (at s t) (at s k) (at s x) (at s w) (at s v) (r s) (l s) z)
        (λ c t x w v f r l y z. let s = c.side in put_at (λ u e f. Like (at u t) e f) s w v (state_alike c.call (at s t) (at s w) (at s v) (l s) y z) l)
        (alike_idle k) (λ c n x y g f. f) (λ c x y g. g) (λ c x y w g m. g)
        h places none_struck none_yet none_yet (begun k) (begun k) fit (both_new k) (alike_new k) tt full in
        (r.answers, r.records, r.fit)

pub no_creep : NoCreepHolds
no_creep k h fit =
    record {
      alone = λ s. let e = held k h fit s in record { sender = e.sender.alone; receiver = e.receiver.alone; metrics = reached_run (at s k).metrics e.metrics };
      rules = λ s. let e = held k h fit s in record { sender = e.sender.rule; receiver = e.receiver.lawful.rule; metrics = (reached_lawful e.metrics).rule };
      reaches = λ s. (held k h fit s).metrics;
      figures = λ s. figures (held k h fit s).metrics;
      kinds = λ s. kinds_hold (held k h fit s).metrics;
      not_by_rule = every k h fit NotByRule (λ c x w e. let s = c.side in (lawful c.call (at s k) (at s x) (at s w) (e s)).not_by_rule);
      as_asked = every k h fit (AsAsked k) (λ c x w e. let s = c.side in (lawful c.call (at s k) (at s x) (at s w) (e s)).as_asked);
      reports = every k h fit ReportHolds (λ c x w e. let s = c.side in end_builds_near c.call (at s x) (at s w) (e s).receiver.jitter);
      answers = λ places full. (struck k h fit places full).0;
      records = λ places full s.
          let calls = calls_left ends (entries_left k places h) in
          records_restored (at s (struck_out k places h)) (at s (reached k h)) (at s (reached k calls)) ((struck k h fit places full).1 s);
      still_fits = λ places full. (struck k h fit places full).2;
    }
