-- What the rule says by its clauses, and what a call that nothing refuses knows of its record and its arguments.
use mathlib.Core.Path.{◌≡◌, refl}
use mathlib.Core.Bool.{Bool, true, ◌&&◌}
use mathlib.Core.List.{List, [], ◌∷◌, foldl}
use Prim.Native.Nat.{ℕ, ◌+◌, ◌^◌, ◌≤◌, ◌<◌}
use native.Mathlib.Omega.{arith}
use borrow.Author.Tests.{eqb-true, leb-true, ltb-true}
use Rattle.refusals.specs.Questions.{question}
use Rattle.refusals.specs.Ranges.{max_clock, clock_ok, counter_ok, optional_clock_ok, ratio_ok, etx_ok}
use Rattle.refusals.proofs.Clauses.{left, right}
use Rattle.refusals.proofs.FirstNoFound.{each_yes}
use Rattle.algorithms.specs.Ewma as ewma
use Rattle.algorithms.specs.Srtt as estimator
use Rattle.figures.specs.Goodput.{goodput_ok}
use Rattle.metrics.specs.State.{trends_ok, ratios_ok, tallied, keeps_the_rule, refusal_of}
use Rattle.metrics.specs.Reports.{counted, Room, process_refusal}
use Rattle.metrics.specs.declared.MmpMetrics.{MmpMetrics}

-- ---- the rule
-- its clauses by name
pub record Kept (m : MmpMetrics) : Type 0 where
  pub clock : optional_clock_ok m.prev_rr_ms ≡ true
  pub round_trip : estimator.keeps_the_rule m.srtt ≡ true
  pub rtt_trend : ewma.keeps_the_rule m.rtt_trend ≡ true
  pub loss_trend : ewma.keeps_the_rule m.loss_trend ≡ true
  pub goodput_trend : ewma.keeps_the_rule m.goodput_trend ≡ true
  pub jitter_trend : ewma.keeps_the_rule m.jitter_trend ≡ true
  pub etx_trend : ewma.keeps_the_rule m.etx_trend ≡ true
  pub forward : ratio_ok m.delivery_ratio_forward ≡ true
  pub reverse : ratio_ok m.delivery_ratio_reverse ≡ true
  pub etx : etx_ok m.etx ≡ true
  pub goodput : goodput_ok m.goodput_bps ≡ true
  pub tallies : tallied m ≡ true

abbrev pub Each : List Bool → Type 0
Each [] = Unit {0}
Each (b ∷ bs) = (b ≡ true) × Each bs

pub clauses : (b : Bool) (bs : List Bool) → foldl ◌&&◌ b bs ≡ true → (b ≡ true) × Each bs
clauses b [] h = (h, tt)
clauses b (c ∷ bs) h = let r = clauses (b && c) bs h in (left b c r.0, (right b c r.0, r.1))

module _ (m : MmpMetrics) where
  pub kept : keeps_the_rule m ≡ true → Kept m
  unfolding keeps_the_rule trends_ok ratios_ok
  kept h =
      let parts = clauses (optional_clock_ok m.prev_rr_ms) (estimator.keeps_the_rule m.srtt ∷ trends_ok m ∷ ratios_ok m ∷ tallied m ∷ []) h in
      let t =
      clauses (ewma.keeps_the_rule m.rtt_trend) (ewma.keeps_the_rule m.loss_trend ∷ ewma.keeps_the_rule m.goodput_trend ∷ ewma.keeps_the_rule m.jitter_trend ∷ ewma.keeps_the_rule m.etx_trend ∷ [])
      parts.1.1.0 in
      let r = clauses (ratio_ok m.delivery_ratio_forward) (ratio_ok m.delivery_ratio_reverse ∷ etx_ok m.etx ∷ goodput_ok m.goodput_bps ∷ []) parts.1.1.1.0 in
      record {
        clock = parts.0;
        round_trip = parts.1.0;
        rtt_trend = t.0;
        loss_trend = t.1.0;
        goodput_trend = t.1.1.0;
        jitter_trend = t.1.1.1.0;
        etx_trend = t.1.1.1.1.0;
        forward = r.0;
        reverse = r.1.0;
        etx = r.1.1.0;
        goodput = r.1.1.1.0;
        tallies = parts.1.1.1.1.0;
      }

  pub keeps : Kept m → keeps_the_rule m ≡ true
  unfolding keeps_the_rule trends_ok ratios_ok
  keeps k =
      rw (
        k.clock,
        k.round_trip,
        k.rtt_trend,
        k.loss_trend,
        k.goodput_trend,
        k.jitter_trend,
        k.etx_trend,
        k.forward,
        k.reverse,
        k.etx,
        k.goodput,
        k.tallies,
      )

  -- the five kinds are the reports seen
  pub sum_seen : keeps_the_rule m ≡ true → m.stale_reports + m.no_echo_reports + m.rtt_samples + m.rtt_zero + m.rtt_arith_fail ≡ m.reports_seen
  sum_seen h = eqb-true (m.stale_reports + m.no_echo_reports + m.rtt_samples + m.rtt_zero + m.rtt_arith_fail) m.reports_seen (kept h).tallies

  -- so each kind has room for one more report where they have: none is full before
  pub counted_room : keeps_the_rule m ≡ true → m.reports_seen + 1 < 2 ^ 64 → Room (counted m)
  unfolding counted
  counted_room h seen =
      let t = sum_seen h in
      record { stale = omega (arith, t); no_echo = omega (arith, t); samples = omega (arith, t); zeros = omega (arith, t); failures = omega (arith, t) }

-- ---- the questions of each call
pub state_asked : (m : MmpMetrics) → refusal_of m ≡ 0 → keeps_the_rule m ≡ true
unfolding refusal_of
state_asked m h = (each_yes (question 1 (keeps_the_rule m) ∷ []) refl h).0

-- a report: the rule, the clock, and a sum that the count of reports can hold, with room in the counts beside it
pub record ProcessAsked (m : MmpMetrics) (now : ℕ) : Type 0 where
  pub rule : keeps_the_rule m ≡ true
  pub clock : now ≤ max_clock
  pub seen : m.reports_seen + 1 < 2 ^ 64
  pub room : Room (counted m)

pub process_asked : (m : MmpMetrics) (now : ℕ) → process_refusal m now ≡ 0 → ProcessAsked m now
unfolding process_refusal
process_asked m now h =
    let y = each_yes (question 1 (keeps_the_rule m) ∷ question 2 (clock_ok now) ∷ question 10 (counter_ok 64 m.reports_seen 1) ∷ []) refl h in
    let seen = ltb-true (m.reports_seen + 1) (2 ^ 64) y.1.1.0 in
    record { rule = y.0; clock = leb-true now max_clock y.1.0; seen = seen; room = counted_room m y.0 seen }
