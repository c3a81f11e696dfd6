-- The kinds of the reports that a history of calls on a metrics record processed, read off the arguments of the calls that were not refused, and no record:
-- document 02, W-205, "Each of the five kinds (stale, no echo, sample, zero, arithmetic failure) equals the number of such calls". Definitions only.
use Rattle.std.specs.Prelude.{cond, List, [], ◌∷◌, ℕ, ◌+◌, ltb, eqb}
use Rattle.wire.specs.declared.receiver_report.ReceiverReport.{ReceiverReport}
use Rattle.history.specs.MetricsCalls.{MetricsCall}
use Rattle.history.specs.ExactRoundTrip.{stale, kept_after}

pub data Kind : Type 0 where
  of_stale of_no_echo of_sample of_zero of_failure : Kind

-- a fresh report: "whose echo was 0"; with an echo, our time past echo and dwell, at them, or before them ("10 ms / zero / arithmetic failure")
unfoldable pub fresh_kind : ReceiverReport → ℕ → Kind
fresh_kind rr ours =
    cond (ltb 0 rr.timestamp_echo)
    (cond (ltb (rr.timestamp_echo + rr.dwell_time) ours) of_sample
    (cond (eqb (rr.timestamp_echo + rr.dwell_time) ours) of_zero of_failure))
    of_no_echo

-- stale beside the report kept, whatever its echo; else by its echo
abbrev pub kind_after : List MetricsCall → ReceiverReport → ℕ → Kind
kind_after l rr ours = cond (stale (kept_after l) rr) of_stale (fresh_kind rr ours)

-- one for each report processed; no other call gives any
unfoldable pub kinds : List MetricsCall → List Kind
kinds [] = []
kinds (MetricsCall.process_receiver_report rr ours now ∷ l) = kind_after l rr ours ∷ kinds l
kinds (MetricsCall.reset_for_rekey ∷ l) = kinds l
kinds (MetricsCall.update_reverse_delivery packets highest ∷ l) = kinds l
kinds (MetricsCall.reports_seen ∷ l) = kinds l
kinds (MetricsCall.stale_reports ∷ l) = kinds l
kinds (MetricsCall.ask q ∷ l) = kinds l

-- ---- how many of a kind
abbrev pub place : Kind → ℕ
place of_stale = 0
place of_no_echo = 1
place of_sample = 2
place of_zero = 3
place of_failure = 4

unfoldable pub among : Kind → List Kind → ℕ
among k [] = 0
among k (j ∷ js) = among k js + cond (eqb (place k) (place j)) 1 0

abbrev pub count : Kind → List MetricsCall → ℕ
count k l = among k (kinds l)
