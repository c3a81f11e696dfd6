-- A metrics record's counts of reports are those of the calls on it: one for each kind that the calls' arguments tell, and reports seen for all.
use mathlib.Core.Path.{◌≡◌, refl, sym, ◌∙◌, ap}
use mathlib.Core.Bool.{cond}
use mathlib.Core.List.{List, [], ◌∷◌}
use Prim.Native.Nat.{ℕ, ◌+◌}
use native.Mathlib.Omega.{arith}
use lib.Dec.{eqb}
use borrow.Author.Tests.{eq-eqb, ne_eqb, lt-ltb, le-ltb}
use Rattle.wire.specs.declared.receiver_report.ReceiverReport.{ReceiverReport}
use Rattle.figures.specs.RoundTrips.{round_trip}
use Rattle.metrics.specs.Reports.{process_of}
use Rattle.metrics.specs.declared.MmpMetrics.{MmpMetrics}
use Rattle.metrics.proofs.ReportsByCase.{process_refusal_lem, by_case}
use Rattle.history.specs.MetricsCalls.{MetricsNew, new_metrics, MetricsCall, metrics_step}
use Rattle.history.specs.ExactRoundTrip.{processed}
use Rattle.history.specs.Kinds.{Kind, of_stale, of_no_echo, of_sample, of_zero, of_failure, fresh_kind, kind_after, kinds, place, among, count}
use Rattle.history.specs.Accounted.{tally, Raised, Uncounted}
use Rattle.history.proofs.RoundTripsAgree.{by_trip}
use Rattle.history.proofs.RoundTripTied as trips
use Rattle.history.proofs.ReportsAccounted.{kind_in, stale_raised, fresh_raised, reports_accounted}

-- ---- the kind that history's exact side reads off a fresh report is that of its round trip
kind_agrees : (rr : ReceiverReport) (ours : ℕ) → fresh_kind rr ours ≡ kind_in (round_trip rr ours)
unfolding fresh_kind
kind_agrees rr ours =
    let echo = rr.timestamp_echo in
    let done = rr.timestamp_echo + rr.dwell_time in
    by_trip (λ t. fresh_kind rr ours ≡ kind_in t) rr ours
    (λ e. rw (le-ltb 0 echo (omega arith)))
    (λ p e. rw (lt-ltb 0 echo p, le-ltb done ours (omega arith), ne_eqb done ours (λ z. absurd (omega arith))))
    (λ p e. rw (lt-ltb 0 echo p, le-ltb done ours (omega arith), eq-eqb done ours (sym e)))
    (λ p e. rw (lt-ltb 0 echo p, lt-ltb done ours e))

-- ---- each kind as often as the calls have it, and reports seen for all
pub record Counted (l : List MetricsCall) (m : MmpMetrics) : Type 0 where
  pub kinds : (k : Kind) → tally k m ≡ count k l
  pub seen : m.reports_seen ≡ processed l

new_kinds : (n : MetricsNew) (k : Kind) → tally k (new_metrics n) ≡ count k []
unfolding kinds among
new_kinds MetricsNew.new of_stale = refl
new_kinds MetricsNew.new of_no_echo = refl
new_kinds MetricsNew.new of_sample = refl
new_kinds MetricsNew.new of_zero = refl
new_kinds MetricsNew.new of_failure = refl
new_kinds MetricsNew.default of_stale = refl
new_kinds MetricsNew.default of_no_echo = refl
new_kinds MetricsNew.default of_sample = refl
new_kinds MetricsNew.default of_zero = refl
new_kinds MetricsNew.default of_failure = refl

new_seen : (n : MetricsNew) → (new_metrics n).reports_seen ≡ processed []
unfolding processed
new_seen MetricsNew.new = refl
new_seen MetricsNew.default = refl

pub new_counted : (n : MetricsNew) → Counted [] (new_metrics n)
new_counted n = record { kinds = new_kinds n; seen = new_seen n }

-- a report that raises the kind that the list gives
raised_counted : (l : List MetricsCall) (m n : MmpMetrics) (rr : ReceiverReport) (ours now : ℕ) → Raised (kind_after l rr ours) m n → Counted l m → Counted (MetricsCall.process_receiver_report rr ours now ∷ l) n
unfolding kinds among processed
raised_counted l m n rr ours now r h =
    record {
      kinds = λ k. r.kinds k ∙ ap (λ (i : ℕ). i + cond (eqb (place k) (place (kind_after l rr ours))) 1 0) (h.kinds k);
      seen = r.seen ∙ ap (λ (i : ℕ). i + 1) h.seen;
    }

process_counted : (l : List MetricsCall) (m : MmpMetrics) (rr : ReceiverReport) (ours now : ℕ) → (process_of m rr ours now).refusal ≡ 0 → trips.Tied l m → Counted l m →
    Counted (MetricsCall.process_receiver_report rr ours now ∷ l) (process_of m rr ours now).state
process_counted l m rr ours now e t h =
    raised_counted l m (process_of m rr ours now).state rr ours now
    (by_case m rr ours now (λ p. Raised (kind_after l rr ours) m p.state)
    (λ ne. absurd (ne (sym (process_refusal_lem m rr ours now) ∙ e)))
    (λ z s. rw (sym (trips.same_test rr t) ∙ s) (stale_raised m))
    (λ z s. rw (sym (trips.same_test rr t) ∙ s, kind_agrees rr ours) (fresh_raised m rr ours now)))
    h

-- any other call: it gives no kind, and raises none
other_counted : (c : MetricsCall) (l : List MetricsCall) (m : MmpMetrics) → kinds (c ∷ l) ≡ kinds l → processed (c ∷ l) ≡ processed l → Uncounted m (metrics_step c m).state → Counted l m → Counted (c ∷ l) (metrics_step c m).state
other_counted c l m p q u h = record { kinds = λ k. u.kinds k ∙ h.kinds k ∙ sym (ap (among k) p); seen = u.seen ∙ h.seen ∙ sym q }

pub counted_next : (c : MetricsCall) (l : List MetricsCall) (m : MmpMetrics) → (metrics_step c m).refusal ≡ 0 → trips.Tied l m → Counted l m → Counted (c ∷ l) (metrics_step c m).state
unfolding metrics_step kinds processed
counted_next (MetricsCall.process_receiver_report rr ours now) l m e t h = process_counted l m rr ours now e t h
counted_next MetricsCall.reset_for_rekey l m e t h = other_counted MetricsCall.reset_for_rekey l m refl refl (reports_accounted MetricsCall.reset_for_rekey m e) h
counted_next (MetricsCall.update_reverse_delivery packets highest) l m e t h = other_counted (MetricsCall.update_reverse_delivery packets highest) l m refl refl (reports_accounted (MetricsCall.update_reverse_delivery packets highest) m e) h
counted_next MetricsCall.reports_seen l m e t h = other_counted MetricsCall.reports_seen l m refl refl (reports_accounted MetricsCall.reports_seen m e) h
counted_next MetricsCall.stale_reports l m e t h = other_counted MetricsCall.stale_reports l m refl refl (reports_accounted MetricsCall.stale_reports m e) h
counted_next (MetricsCall.ask q) l m e t h = other_counted (MetricsCall.ask q) l m refl refl (reports_accounted (MetricsCall.ask q) m e) h
