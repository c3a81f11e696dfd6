-- What each call does to the smoothed round trip and to the report kept: a report taken steps the estimate by its sample, if it has one, and is kept; a rekey keeps
-- the estimate and no report; every other call leaves both.
use mathlib.Core.Path.{◌≡◌, refl, ap, ◌∙◌}
use mathlib.Core.Bool.{true}
use Prim.Native.Nat.{ℕ, ◌^◌, ◌<◌}
use native.Mathlib.Omega.{arith}
use lib.IntN.{pos}
use Rattle.numbers.specs.RoundTrip.{Estimate, no_estimate, estimate_step}
use Rattle.algorithms.specs.Srtt.{estimate_in, stepped, update_of}
use Rattle.algorithms.proofs.SrttStepsEstimate.{fresh_holds_none, step_is_estimate_step}
use Rattle.figures.specs.RoundTrips.{round_trip, sample_us}
use Rattle.figures.specs.Stale.{none, saved, counters_of}
use Rattle.figures.specs.declared.RoundTrip.{RoundTrip}
use Rattle.figures.specs.declared.RoundTrip.TheVariants.{NoEcho, Sample, Zero, ArithFail}
use Rattle.figures.proofs.TripsInRange.{sample_at_most, sample_accepted}
use Rattle.wire.specs.declared.receiver_report.ReceiverReport.{ReceiverReport}
use Rattle.metrics.specs.Fields.{Rtt}
use Rattle.metrics.specs.State.{keeps_the_rule, fresh, saved_in}
use Rattle.metrics.specs.Updates.{rekeyed, reversed}
use Rattle.metrics.specs.Reports.{counted, stale_counted, sampled, rtt_updated, counters_saved, traffic_updated, newer_state}
use Rattle.metrics.specs.declared.MmpMetrics.{MmpMetrics}
use Rattle.metrics.proofs.QuestionsAnswered as rule
use Rattle.metrics.proofs.ReportsByCase.{by_reverse, traffic_leaves}

-- ---- the estimate
-- a sample of whole ms is a step of 1000 times as many µs; any other echo is none
abbrev pub after_trip : Estimate → RoundTrip → Estimate
after_trip e NoEcho = e
after_trip e (Sample ms) = estimate_step e (sample_us ms)
after_trip e Zero = e
after_trip e ArithFail = e

trip_estimate : (m : MmpMetrics) (t : RoundTrip) → estimate_in (rtt_updated m t).srtt ≡ after_trip (estimate_in m.srtt) t
unfolding rtt_updated sampled
trip_estimate m NoEcho = refl
trip_estimate m (Sample ms) = step_is_estimate_step m.srtt (pos (sample_us ms))
trip_estimate m Zero = refl
trip_estimate m ArithFail = refl

-- question 8 never refuses: the checked update of a lawful record's estimator takes every sample, and is that step
pub sample_taken : (m : MmpMetrics) (rr : ReceiverReport) (ours ms : ℕ) → keeps_the_rule m ≡ true → ours < 2 ^ 32 → round_trip rr ours ≡ Sample ms
    → update_of m.srtt (pos (sample_us ms)) ≡ record { refusal = 0; state = stepped m.srtt (pos (sample_us ms)) }
unfolding update_of
sample_taken m rr ours ms h o t =
    let l = sample_at_most rr ours ms t in
    rw (sample_accepted m.srtt ms (rule.kept m h).round_trip (omega arith))

pub fresh_estimate : estimate_in fresh.srtt ≡ no_estimate
fresh_estimate = fresh_holds_none

pub counted_estimator : (m : MmpMetrics) → (counted m).srtt ≡ m.srtt
unfolding counted
counted_estimator m = refl

pub stale_estimator : (m : MmpMetrics) → (stale_counted m).srtt ≡ m.srtt
unfolding stale_counted
stale_estimator m = refl

pub newer_estimate : (m : MmpMetrics) (rr : ReceiverReport) (ours now : ℕ) → estimate_in (newer_state m rr ours now).srtt ≡ after_trip (estimate_in m.srtt) (round_trip rr ours)
unfolding newer_state
newer_estimate m rr ours now = ap (λ (r : Rtt). estimate_in r.estimator) (traffic_leaves (rtt_updated m (round_trip rr ours)) rr now).0 ∙ trip_estimate m (round_trip rr ours)

pub rekeyed_estimator : (m : MmpMetrics) → (rekeyed m).srtt ≡ m.srtt
unfolding rekeyed
rekeyed_estimator m = refl

-- ---- the report kept
pub fresh_saved : saved_in fresh ≡ none
unfolding saved_in
fresh_saved = refl

pub counted_saved : (m : MmpMetrics) → saved_in (counted m) ≡ saved_in m
unfolding saved_in counted
counted_saved m = refl

pub stale_saved : (m : MmpMetrics) → saved_in (stale_counted m) ≡ saved_in m
unfolding saved_in stale_counted
stale_saved m = refl

pub newer_saved : (m : MmpMetrics) (rr : ReceiverReport) (ours now : ℕ) → saved_in (newer_state m rr ours now) ≡ saved (counters_of rr)
unfolding saved_in newer_state traffic_updated counters_saved
newer_saved m rr ours now = refl

pub rekeyed_saved : (m : MmpMetrics) → saved_in (rekeyed m) ≡ none
unfolding saved_in rekeyed
rekeyed_saved m = refl

-- ---- the reverse ratio
pub reversed_leaves : (m : MmpMetrics) (packets highest : ℕ) → ((reversed m packets highest).srtt ≡ m.srtt) × (saved_in (reversed m packets highest) ≡ saved_in m)
unfolding saved_in reversed
reversed_leaves m packets highest = by_reverse (λ n. (n.srtt ≡ m.srtt) × (saved_in n ≡ saved_in m)) m packets highest (λ h. (refl, refl)) (refl, refl)
