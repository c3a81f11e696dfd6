-- A metrics record's SRTT and RTTVAR are the estimates of the round trips that the calls on it took, and the report that it keeps is the one that its log keeps.
use mathlib.Core.Path.{◌≡◌, sym, ◌∙◌, ap}
use mathlib.Core.Bool.{Bool}
use mathlib.Core.List.{List, [], ◌∷◌, ◌++◌, map-append, foldl, foldl-append}
use Prim.Native.Nat.{ℕ, ◌*◌}
use Rattle.numbers.specs.RoundTrip.{multiples, no_estimate, estimate_step, estimate_of}
use Rattle.wire.specs.declared.receiver_report.ReceiverReport.{ReceiverReport}
use Rattle.algorithms.specs.Srtt.{estimate_in}
use Rattle.figures.specs.Stale as figures
use Rattle.metrics.specs.State.{saved_in}
use Rattle.metrics.specs.Reports.{counted, process_of}
use Rattle.metrics.specs.Updates.{rekey_of, reverse_of}
use Rattle.metrics.specs.declared.MmpMetrics.{MmpMetrics}
use Rattle.metrics.proofs.ReportsByCase.{process_refusal_lem, by_case}
use Rattle.metrics.proofs.RoundTripsTaken.{fresh_estimate, fresh_saved, counted_estimator, counted_saved, stale_estimator, stale_saved, newer_estimate, newer_saved, rekeyed_estimator, rekeyed_saved, reversed_leaves}
use Rattle.history.specs.MetricsCalls.{MetricsNew, new_metrics, MetricsCall, metrics_step}
use Rattle.history.specs.ExactRoundTrip as exact
use Rattle.history.proofs.RoundTripsAgree.{saved_as, stale_agrees, estimate_agrees}

pub record Tied (l : List MetricsCall) (m : MmpMetrics) : Type 0 where
  pub estimate : estimate_in m.srtt ≡ estimate_of (exact.round_trips l)
  pub kept : saved_in m ≡ saved_as (exact.kept_after l)

pub new_tied : (k : MetricsNew) → Tied [] (new_metrics k)
unfolding exact.kept_after exact.trips_ms
new_tied MetricsNew.new = record { estimate = fresh_estimate; kept = fresh_saved }
new_tied MetricsNew.default = record { estimate = fresh_estimate; kept = fresh_saved }

-- the estimate of a list and what comes after it
estimate_of_more : (ms more : List ℕ) → estimate_of (multiples 1000 (ms ++ more)) ≡ foldl estimate_step (estimate_of (multiples 1000 ms)) (multiples 1000 more)
estimate_of_more ms more = ap estimate_of (map-append (λ (k : ℕ). 1000 * k) ms more) ∙ foldl-append estimate_step no_estimate (multiples 1000 ms) (multiples 1000 more)

-- the stale test of the record is the list's own
pub same_test : {l : List MetricsCall} {m : MmpMetrics} (rr : ReceiverReport) → Tied l m → figures.stale (saved_in m) rr ≡ exact.stale (exact.kept_after l) rr
same_test {l} {m} rr h = ap (λ (k : figures.Saved). figures.stale k rr) h.kept ∙ stale_agrees (exact.kept_after l) rr

-- a report, stale or taken
process_tied : (l : List MetricsCall) (m : MmpMetrics) (rr : ReceiverReport) (ours now : ℕ) → (process_of m rr ours now).refusal ≡ 0 → Tied l m →
    Tied (MetricsCall.process_receiver_report rr ours now ∷ l) (process_of m rr ours now).state
unfolding exact.kept_after exact.trips_ms
process_tied l m rr ours now e h =
    by_case m rr ours now (λ p. Tied (MetricsCall.process_receiver_report rr ours now ∷ l) p.state)
    (λ ne. absurd (ne (sym (process_refusal_lem m rr ours now) ∙ e)))
    (λ z s. record {
      estimate = rw (its s) (ap estimate_in (stale_estimator (counted m) ∙ counted_estimator m) ∙ h.estimate ∙ sym (estimate_of_more (exact.trips_ms l) []));
      kept = rw (its s) (stale_saved (counted m) ∙ counted_saved m ∙ h.kept);
    })
    (λ z s. record {
      estimate =
          rw (its s)
          (newer_estimate (counted m) rr ours now
          ∙ estimate_agrees (estimate_in (counted m).srtt) rr ours
          ∙ ap (λ e. foldl estimate_step e (multiples 1000 (exact.trip_ms rr ours))) (ap estimate_in (counted_estimator m) ∙ h.estimate)
          ∙ sym (estimate_of_more (exact.trips_ms l) (exact.trip_ms rr ours)));
      kept = rw (its s) (newer_saved (counted m) rr ours now);
    })
  where
    its : {b : Bool} → figures.stale (saved_in m) rr ≡ b → exact.stale (exact.kept_after l) rr ≡ b
    its s = sym (same_test rr h) ∙ s

-- every accepted call
pub tied_next : (c : MetricsCall) (l : List MetricsCall) (m : MmpMetrics) → (metrics_step c m).refusal ≡ 0 → Tied l m → Tied (c ∷ l) (metrics_step c m).state
unfolding metrics_step rekey_of reverse_of exact.kept_after exact.trips_ms
tied_next (MetricsCall.process_receiver_report rr ours now) l m e h = process_tied l m rr ours now e h
tied_next MetricsCall.reset_for_rekey l m e h =
    rw e (record { estimate = ap estimate_in (rekeyed_estimator m) ∙ h.estimate; kept = rekeyed_saved m })
tied_next (MetricsCall.update_reverse_delivery packets highest) l m e h =
    let left = reversed_leaves m packets highest in
    rw e (record { estimate = ap estimate_in left.0 ∙ h.estimate; kept = left.1 ∙ h.kept })
tied_next MetricsCall.reports_seen l m e h = record { estimate = h.estimate; kept = h.kept }
tied_next MetricsCall.stale_reports l m e h = record { estimate = h.estimate; kept = h.kept }
tied_next (MetricsCall.ask q) l m e h = record { estimate = h.estimate; kept = h.kept }
