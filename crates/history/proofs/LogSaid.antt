-- An RTT log entry carries what document 01, "Round trip, ratios and trends", says.
use mathlib.Core.Path.{◌≡◌, refl, sym, ap, ◌∙◌}
use mathlib.Core.Bool.{Bool}
use Prim.Native.Nat.{ℕ}
use native.Mathlib.Omega.{arith}
use lib.Ieee.{Float, of_int}
use Rattle.wire.specs.declared.receiver_report.ReceiverReport.{ReceiverReport}
use Rattle.figures.specs.RoundTrips.{round_trip, milliseconds_of}
use Rattle.figures.specs.declared.RoundTrip.{RoundTrip}
use Rattle.figures.specs.declared.RoundTrip.TheVariants.{NoEcho, Sample, Zero, ArithFail}
use Rattle.metrics.specs.Reports.{counted, rtt_log, outcome_of}
use Rattle.metrics.specs.declared.MmpMetrics.{MmpMetrics}
use Rattle.metrics.specs.declared.Outcome.{Outcome}
use Rattle.metrics.specs.declared.RrLog.{RrLog}
use Rattle.metrics.specs.declared.RrLog.TheVariants as log
use Rattle.metrics.proofs.ReportsByCase.{by_case}
use Rattle.history.specs.Answers.{Answer}
use Rattle.history.specs.MetricsCalls.{metrics_step}
use Rattle.history.specs.LogEntry.{Logged, LogHolds}
use Rattle.history.proofs.RoundTripsAgree.{trip_in, trip_agrees}

-- of the entries of a report taken one alone has a round trip
taken_logged : (m : MmpMetrics) (rr : ReceiverReport) (ours ms : ℕ) (srtt : Float) (t : RoundTrip) → round_trip rr ours ≡ t → rtt_log (counted m) t ≡ log.RttSample ms srtt → Logged m rr ours ms srtt
unfolding rtt_log counted milliseconds_of of_int
taken_logged m rr ours ms srtt NoEcho is e = let z : ◌≡◌ {A = ℕ} 0 1 = cc in absurd (omega arith)
taken_logged m rr ours ms srtt (Sample n) is e =
    let same : n ≡ ms = cc in
    let before : milliseconds_of m.srtt.srtt_us ≡ srtt = cc in
    record { whole = trip_agrees rr ours ∙ ap trip_in (is ∙ ap Sample same); before = sym before }
taken_logged m rr ours ms srtt Zero is e = let z : ◌≡◌ {A = ℕ} 0 1 = cc in absurd (omega arith)
taken_logged m rr ours ms srtt ArithFail is e = let z : ◌≡◌ {A = ℕ} 0 1 = cc in absurd (omega arith)

-- the entry of an outcome
entry : (o : Outcome) (first : Bool) (l : RrLog) → ◌≡◌ {A = Answer} (Answer.outcome o) (Answer.outcome (outcome_of first l)) → o.log ≡ l
entry o first l e = let same : o ≡ outcome_of first l = cc in ap (λ (p : Outcome). p.log) same

pub log_holds : LogHolds
unfolding metrics_step
log_holds m rr ours now ms srtt first =
    by_case m rr ours now (λ p. ◌≡◌ {A = Answer} (Answer.outcome p.outcome) (Answer.outcome (outcome_of first (log.RttSample ms srtt))) → Logged m rr ours ms srtt)
    (λ ne e. let same = entry _ first (log.RttSample ms srtt) e in let z : ◌≡◌ {A = ℕ} 0 1 = cc in absurd (omega arith))
    (λ h s e. let same = entry _ first (log.RttSample ms srtt) e in let z : ◌≡◌ {A = ℕ} 0 1 = cc in absurd (omega arith))
    (λ h s e. taken_logged m rr ours ms srtt (round_trip rr ours) refl (entry _ first (log.RttSample ms srtt) e))
