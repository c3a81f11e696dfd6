-- Every accepted call does to the counts of a metrics record what specs/Accounted says.
use mathlib.Core.Path.{◌≡◌, refl, sym, ◌∙◌, ap, subst}
use mathlib.Core.Bool.{cond}
use Prim.Native.Nat.{ℕ, ◌+◌}
use native.Mathlib.Omega.{arith}
use lib.Dec.{eqb}
use Rattle.wire.specs.declared.receiver_report.ReceiverReport.{ReceiverReport}
use Rattle.figures.specs.RoundTrips.{round_trip}
use Rattle.figures.specs.declared.RoundTrip.{RoundTrip}
use Rattle.figures.specs.declared.RoundTrip.TheVariants.{NoEcho, Sample, Zero, ArithFail}
use Rattle.metrics.specs.Fields.{Tallies, tallies_in}
use Rattle.metrics.specs.Reports.{counted, stale_counted, sampled, rtt_updated, rtt_log, newer_state, process_of}
use Rattle.metrics.specs.Updates.{rekeyed, rekey_of, reversed, reverse_of}
use Rattle.metrics.specs.declared.MmpMetrics.{MmpMetrics}
use Rattle.metrics.proofs.ReportsByCase.{process_refusal_lem, by_case, by_reverse, traffic_leaves}
use Rattle.history.specs.MetricsCalls.{MetricsCall, metrics_step}
use Rattle.history.specs.Kinds.{Kind, of_stale, of_no_echo, of_sample, of_zero, of_failure, place}
use Rattle.history.specs.Accounted.{tally, Logged, as_stale, as_no_echo, as_sample, as_zero, as_failure, Raised, Accounted, Uncounted, AccountedHolds}

-- the kind of a fresh report, by its round trip
abbrev pub kind_in : RoundTrip → Kind
kind_in NoEcho = of_no_echo
kind_in (Sample ms) = of_sample
kind_in Zero = of_zero
kind_in ArithFail = of_failure

-- records with the same tallies have the same counts
same_kinds : (m n : MmpMetrics) → tallies_in n ≡ tallies_in m → (k : Kind) → tally k n ≡ tally k m
same_kinds m n e of_stale = ap (λ (t : Tallies). t.stale) e
same_kinds m n e of_no_echo = ap (λ (t : Tallies). t.no_echo) e
same_kinds m n e of_sample = ap (λ (t : Tallies). t.samples) e
same_kinds m n e of_zero = ap (λ (t : Tallies). t.zeros) e
same_kinds m n e of_failure = ap (λ (t : Tallies). t.failures) e

same_seen : (m n : MmpMetrics) → tallies_in n ≡ tallies_in m → n.reports_seen ≡ m.reports_seen
same_seen m n e = ap (λ (t : Tallies). t.seen) e

uncounted : (m n : MmpMetrics) → tallies_in n ≡ tallies_in m → Uncounted m n
uncounted m n e = record { kinds = same_kinds m n e; seen = same_seen m n e }

-- ---- a stale report
stale_kinds : (m : MmpMetrics) (k : Kind) → tally k (stale_counted (counted m)) ≡ tally k m + cond (eqb (place k) (place of_stale)) 1 0
unfolding stale_counted counted
stale_kinds m of_stale = omega arith
stale_kinds m of_no_echo = omega arith
stale_kinds m of_sample = omega arith
stale_kinds m of_zero = omega arith
stale_kinds m of_failure = omega arith

pub stale_raised : (m : MmpMetrics) → Raised of_stale m (stale_counted (counted m))
unfolding stale_counted counted
stale_raised m = record { kinds = stale_kinds m; seen = refl }

-- ---- a fresh one: by its round trip
trip_kinds : (m : MmpMetrics) (t : RoundTrip) (k : Kind) → tally k (rtt_updated (counted m) t) ≡ tally k m + cond (eqb (place k) (place (kind_in t))) 1 0
unfolding rtt_updated sampled counted
trip_kinds m NoEcho of_stale = omega arith
trip_kinds m NoEcho of_no_echo = omega arith
trip_kinds m NoEcho of_sample = omega arith
trip_kinds m NoEcho of_zero = omega arith
trip_kinds m NoEcho of_failure = omega arith
trip_kinds m (Sample ms) of_stale = omega arith
trip_kinds m (Sample ms) of_no_echo = omega arith
trip_kinds m (Sample ms) of_sample = omega arith
trip_kinds m (Sample ms) of_zero = omega arith
trip_kinds m (Sample ms) of_failure = omega arith
trip_kinds m Zero of_stale = omega arith
trip_kinds m Zero of_no_echo = omega arith
trip_kinds m Zero of_sample = omega arith
trip_kinds m Zero of_zero = omega arith
trip_kinds m Zero of_failure = omega arith
trip_kinds m ArithFail of_stale = omega arith
trip_kinds m ArithFail of_no_echo = omega arith
trip_kinds m ArithFail of_sample = omega arith
trip_kinds m ArithFail of_zero = omega arith
trip_kinds m ArithFail of_failure = omega arith

trip_seen : (m : MmpMetrics) (t : RoundTrip) → (rtt_updated (counted m) t).reports_seen ≡ m.reports_seen + 1
unfolding rtt_updated sampled counted
trip_seen m NoEcho = refl
trip_seen m (Sample ms) = refl
trip_seen m Zero = refl
trip_seen m ArithFail = refl

trip_logged : (m : MmpMetrics) (t : RoundTrip) → Logged (kind_in t) (rtt_log m t)
unfolding rtt_log
trip_logged m NoEcho = as_no_echo
trip_logged m (Sample ms) = as_sample
trip_logged m Zero = as_zero
trip_logged m ArithFail = as_failure

fresh_tallies : (m : MmpMetrics) (rr : ReceiverReport) (ours now : ℕ) → tallies_in (newer_state m rr ours now) ≡ tallies_in (rtt_updated m (round_trip rr ours))
unfolding newer_state
fresh_tallies m rr ours now = (traffic_leaves (rtt_updated m (round_trip rr ours)) rr now).1

pub fresh_raised : (m : MmpMetrics) (rr : ReceiverReport) (ours now : ℕ) → Raised (kind_in (round_trip rr ours)) m (newer_state (counted m) rr ours now)
fresh_raised m rr ours now =
    let trip = rtt_updated (counted m) (round_trip rr ours) in
    let taken = newer_state (counted m) rr ours now in
    let same = fresh_tallies (counted m) rr ours now in
    record {
      kinds = λ k. same_kinds trip taken same k ∙ trip_kinds m (round_trip rr ours) k;
      seen = same_seen trip taken same ∙ trip_seen m (round_trip rr ours);
    }

-- ---- a report, whatever it was
process_accounted : (m : MmpMetrics) (rr : ReceiverReport) (ours now : ℕ) → (process_of m rr ours now).refusal ≡ 0 → Accounted m (process_of m rr ours now).state (process_of m rr ours now).outcome
process_accounted m rr ours now e =
    by_case m rr ours now (λ p. Accounted m p.state p.outcome)
    (λ ne. absurd (ne (sym (process_refusal_lem m rr ours now) ∙ e)))
    (λ z s. record { kind = of_stale; logged = as_stale; raised = stale_raised m })
    (λ z s. record { kind = kind_in (round_trip rr ours); logged = trip_logged (counted m) (round_trip rr ours); raised = fresh_raised m rr ours now })

-- ---- a rekey and an update of the reverse side
rekeyed_tallies : (m : MmpMetrics) → tallies_in (rekeyed m) ≡ tallies_in m
unfolding rekeyed
rekeyed_tallies m = refl

reversed_tallies : (m : MmpMetrics) (packets highest : ℕ) → tallies_in (reversed m packets highest) ≡ tallies_in m
unfolding reversed
reversed_tallies m packets highest = by_reverse (λ n. tallies_in n ≡ tallies_in m) m packets highest (λ h. refl) refl

-- ---- every call
pub reports_accounted : AccountedHolds
unfolding metrics_step rekey_of reverse_of
reports_accounted (MetricsCall.process_receiver_report rr ours now) m e =
    λ o a. let same : (process_of m rr ours now).outcome ≡ o = cc in subst (Accounted m (process_of m rr ours now).state) same (process_accounted m rr ours now e)
reports_accounted MetricsCall.reset_for_rekey m e = rw e (uncounted m (rekeyed m) (rekeyed_tallies m))
reports_accounted (MetricsCall.update_reverse_delivery packets highest) m e = rw e (uncounted m (reversed m packets highest) (reversed_tallies m packets highest))
reports_accounted MetricsCall.reports_seen m e = uncounted m m refl
reports_accounted MetricsCall.stale_reports m e = uncounted m m refl
reports_accounted (MetricsCall.ask q) m e = uncounted m m refl
