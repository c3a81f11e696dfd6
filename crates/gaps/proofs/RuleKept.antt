-- Each call ends within a tracker's rule: a new tracker keeps it, and so does the tracker after a frame whose burst can be counted, and after a report.
use Rattle.std.specs.Prelude.{None, Option, Some}
use mathlib.Core.Path.{◌≡◌, refl, sym, ap, ◌∙◌}
use mathlib.Core.Bool.{true, false, cond, not, ◌&&◌, ◌||◌, true≢false, and-eq-true_iff}
use Prim.Native.Nat.{ℕ, ◌+◌, ◌-◌, ◌*◌, ◌^◌, ◌≤◌, ◌<◌, min}
use native.Mathlib.Omega.{arith}
use lib.Dec.{leb, eqb}
use borrow.Author.Tests.{leb-true, le-leb, eqb-true, eqb-false, eq-eqb, ltb-true, not-false}
use Rattle.refusals.specs.Ranges.{counter_ok}
use Rattle.refusals.proofs.Clauses.{either, or}
use Rattle.refusals.proofs.PickedByTest.{picked}
use Rattle.gaps.specs.Gaps.{max_length, max_counter, finished_bursts, keeps_the_rule, fresh, gap_at, begins_burst, bursts_ok, next_after, expecting, burst_recorded, burst_finished, gap_counted, gap_observed, tracked_after, observed}
use Rattle.gaps.specs.Stats.{stats_of}
use Rattle.gaps.specs.declared.GapTracker.{GapTracker}

-- ---- the rule by its clauses
-- the rule's clauses by name
pub record Kept (t : GapTracker) : Type 0 where
  pub outside : t.in_burst ≡ false → t.current_burst_len ≡ 0
  pub inside : t.in_burst ≡ true → 1 ≤ t.burst_count
  pub total : t.total_burst_len ≤ max_length * finished_bursts t

-- what the type of the current length keeps
abbrev pub Fits : GapTracker → Type 0
Fits t = t.current_burst_len ≤ max_length

pub kept : (t : GapTracker) → keeps_the_rule t ≡ true → Kept t
unfolding keeps_the_rule
kept t h =
    let o = t.in_burst || eqb t.current_burst_len 0 in
    let i = not t.in_burst || leb 1 t.burst_count in
    let p = (and-eq-true_iff (o && i) (leb t.total_burst_len (max_length * finished_bursts t))).0 h in
    let q = (and-eq-true_iff o i).0 p.0 in
    record {
      outside = λ e. eqb-true t.current_burst_len 0 (either t.in_burst (eqb t.current_burst_len 0) q.0 e);
      inside = λ e. leb-true 1 t.burst_count (either (not t.in_burst) (leb 1 t.burst_count) q.1 (ap not e));
      total = leb-true t.total_burst_len (max_length * finished_bursts t) p.1;
    }

pub keeps : (t : GapTracker) → Kept t → keeps_the_rule t ≡ true
unfolding keeps_the_rule
keeps t k =
    let o = t.in_burst || eqb t.current_burst_len 0 in
    let i = not t.in_burst || leb 1 t.burst_count in
    (and-eq-true_iff (o && i) (leb t.total_burst_len (max_length * finished_bursts t))).1 (
      (and-eq-true_iff o i).1 (
        or t.in_burst (eqb t.current_burst_len 0) (λ e. eq-eqb t.current_burst_len 0 (k.outside e)),
        or (not t.in_burst) (leb 1 t.burst_count) (λ e. le-leb 1 t.burst_count (k.inside (not-false t.in_burst e))),
      ),
      le-leb t.total_burst_len (max_length * finished_bursts t) k.total,
    )

finished_inside : (t : GapTracker) → t.in_burst ≡ true → finished_bursts t ≡ t.burst_count - 1
unfolding finished_bursts
finished_inside t e = ap (λ b. cond b (t.burst_count - 1) t.burst_count) e

pub finished_outside : (t : GapTracker) → t.in_burst ≡ false → finished_bursts t ≡ t.burst_count
unfolding finished_bursts
finished_outside t e = ap (λ b. cond b (t.burst_count - 1) t.burst_count) e

-- ---- a burst ends
pub burst_finished_kept : (t : GapTracker) → Kept t → Fits t → Kept (burst_finished t)
unfolding burst_finished finished_bursts
burst_finished_kept t k f = picked Kept t.in_burst recorded (λ e. k)
  where
    recorded : t.in_burst ≡ true → Kept (burst_recorded t)
    recorded e =
        record { outside = λ z. refl; inside = λ z. absurd (true≢false (sym z)); total = omega (arith, k.total, k.inside e, f, finished_inside t e) }

pub burst_finished_keeps_rule : (t : GapTracker) → keeps_the_rule t ≡ true → Fits t → keeps_the_rule (burst_finished t) ≡ true
burst_finished_keeps_rule t h f = keeps (burst_finished t) (burst_finished_kept t (kept t h) f)

pub burst_finished_outside : (t : GapTracker) → (burst_finished t).in_burst ≡ false
unfolding burst_finished
burst_finished_outside t = picked (λ (u : GapTracker). u.in_burst ≡ false) t.in_burst (λ e. refl) (λ e. e)

-- ---- a gap
gap_counted_kept : (t : GapTracker) (gap : ℕ) → Kept t → (t.in_burst ≡ false → t.burst_count + 1 < 2 ^ 32) → Kept (gap_counted t gap)
unfolding gap_counted finished_bursts
gap_counted_kept t gap k room =
    picked Kept t.in_burst (λ e. record { outside = λ z. absurd (true≢false (sym e ∙ z)); inside = k.inside; total = k.total })
    (λ e. record { outside = λ z. absurd (true≢false z); inside = λ z. omega arith; total = omega (arith, k.total, room e, finished_outside t e) })

gap_observed_kept : (t : GapTracker) (gap : ℕ) → Kept t → Fits t → (t.in_burst ≡ false → 1 ≤ gap → t.burst_count + 1 < 2 ^ 32) → Kept (gap_observed t gap)
unfolding gap_observed
gap_observed_kept t gap k f room =
    picked Kept (eqb gap 0) (λ e. burst_finished_kept t k f)
    (λ e. let m = eqb-false gap 0 e in gap_counted_kept t gap k (λ o. room o (omega arith)))

expecting_kept : (t : GapTracker) (next : ℕ) → Kept t → Kept (expecting t next)
unfolding finished_bursts
expecting_kept t next k = record { outside = k.outside; inside = k.inside; total = k.total }

-- where the frame begins a burst, the count has room
room_asked : (t : GapTracker) (counter : ℕ) → bursts_ok t counter ≡ true → t.in_burst ≡ false → 1 ≤ gap_at t.expected_next counter → t.burst_count + 1 < 2 ^ 32
room_asked t counter h e l =
    let g : begins_burst t counter ≡ true = rw (e, le-leb 1 (gap_at t.expected_next counter) l) in
    ltb-true (t.burst_count + 1) (2 ^ 32) (either (not (begins_burst t counter)) (counter_ok 32 t.burst_count 1) h (ap not g))

pub observed_keeps_rule : (t : GapTracker) (counter : ℕ) → keeps_the_rule t ≡ true → Fits t → bursts_ok t counter ≡ true → keeps_the_rule (observed t counter).tracker ≡ true
unfolding observed
observed_keeps_rule t counter h f b = keeps _ (go t.expected_next (room_asked t counter b))
  where
    go : (due : Option ℕ) → (t.in_burst ≡ false → 1 ≤ gap_at due counter → t.burst_count + 1 < 2 ^ 32) → Kept (tracked_after due t counter)
    go None room = expecting_kept t (min (counter + 1) max_counter) (kept t h)
    go (Some expected) room = expecting_kept (gap_observed t (counter - expected)) (next_after expected counter) (gap_observed_kept t (counter - expected) (kept t h) f room)

-- ---- the current length stays within its type
burst_finished_fits : (t : GapTracker) → Fits t → Fits (burst_finished t)
unfolding burst_finished
burst_finished_fits t f = picked Fits t.in_burst (λ e. omega arith) (λ e. f)

gap_counted_fits : (t : GapTracker) (gap : ℕ) → Fits (gap_counted t gap)
unfolding gap_counted
gap_counted_fits t gap = picked Fits t.in_burst (λ e. omega arith) (λ e. omega arith)

gap_observed_fits : (t : GapTracker) (gap : ℕ) → Fits t → Fits (gap_observed t gap)
unfolding gap_observed
gap_observed_fits t gap f = picked Fits (eqb gap 0) (λ e. burst_finished_fits t f) (λ e. gap_counted_fits t gap)

pub observed_fits : (t : GapTracker) (counter : ℕ) → Fits t → Fits (observed t counter).tracker
unfolding observed
observed_fits t counter f = go t.expected_next
  where
    go : (due : Option ℕ) → Fits (tracked_after due t counter)
    go None = f
    go (Some expected) = gap_observed_fits t (counter - expected) f

-- ---- a new tracker, and a report
pub fresh_keeps_rule : keeps_the_rule fresh ≡ true
unfolding keeps_the_rule finished_bursts
fresh_keeps_rule = refl

pub stats_keep_rule : (t : GapTracker) → keeps_the_rule t ≡ true → Fits t → keeps_the_rule (stats_of t).tracker ≡ true
unfolding stats_of finished_bursts
stats_keep_rule t h f =
    let o = burst_finished_outside t in
    keeps _ (record { outside = (burst_finished_kept t (kept t h) f).outside; inside = λ e. absurd (true≢false (sym e ∙ o)); total = omega arith })

pub stats_fit : (t : GapTracker) → Fits t → Fits (stats_of t).tracker
unfolding stats_of
stats_fit t f = burst_finished_fits t f
