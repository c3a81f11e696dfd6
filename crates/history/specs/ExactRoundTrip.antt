-- The round trips that the calls on a metrics record take, the report kept for the stale test, and the reports processed, each read off the arguments of the
-- calls that were not refused, and no record: document 01, "Round trip, ratios and trends" and "The exact averages". Definitions only.
use Rattle.std.specs.Prelude.{Bool, true, false, cond, ◌&&◌, ◌||◌, List, [], ◌∷◌, ◌++◌, ℕ, ◌+◌, ◌-◌, ltb, eqb}
use Rattle.numbers.specs.RoundTrip.{multiples}
use Rattle.wire.specs.declared.receiver_report.ReceiverReport.{ReceiverReport}
use Rattle.history.specs.MetricsCalls.{MetricsCall}

-- ---- the stale test
-- "five counters (highest, packets, bytes, ECN, reorders)"
abbrev pub counters : ReceiverReport → List ℕ
counters rr = rr.highest_counter ∷ rr.cumulative_packets_recv ∷ rr.cumulative_bytes_recv ∷ rr.ecn_ce_count ∷ rr.cumulative_reorder_count ∷ []

-- "one of five counters .. fell"
unfoldable pub one_fell : List ℕ → List ℕ → Bool
one_fell [] new = false
one_fell (k ∷ kept) [] = false
one_fell (k ∷ kept) (n ∷ new) = ltb n k || one_fell kept new

-- "all five are equal"
unfoldable pub all_equal : List ℕ → List ℕ → Bool
all_equal [] new = true
all_equal (k ∷ kept) [] = true
all_equal (k ∷ kept) (n ∷ new) = eqb n k && all_equal kept new

pub data Kept : Type 0 where
  no_report : Kept
  report : ReceiverReport → Kept

-- "Stale means that an earlier report is kept and one of five counters fell, or all five are equal"
unfoldable pub stale : Kept → ReceiverReport → Bool
stale no_report rr = false
stale (report k) rr = one_fell (counters k) (counters rr) || all_equal (counters k) (counters rr)

-- "the report kept is the last one processed, neither refused nor stale, since the metrics began or were last rekeyed"
unfoldable pub kept_after : List MetricsCall → Kept
kept_after [] = no_report
kept_after (MetricsCall.process_receiver_report rr ours now ∷ l) = cond (stale (kept_after l) rr) (kept_after l) (report rr)
kept_after (MetricsCall.reset_for_rekey ∷ l) = no_report
kept_after (MetricsCall.update_reverse_delivery packets highest ∷ l) = kept_after l
kept_after (MetricsCall.reports_seen ∷ l) = kept_after l
kept_after (MetricsCall.stale_reports ∷ l) = kept_after l
kept_after (MetricsCall.ask q ∷ l) = kept_after l

-- a report that is stale after these calls
abbrev pub stale_call : MetricsCall → List MetricsCall → Bool
stale_call (MetricsCall.process_receiver_report rr ours now) l = stale (kept_after l) rr
stale_call MetricsCall.reset_for_rekey l = false
stale_call (MetricsCall.update_reverse_delivery packets highest) l = false
stale_call MetricsCall.reports_seen l = false
stale_call MetricsCall.stale_reports l = false
stale_call (MetricsCall.ask q) l = false

-- ---- the round trips
-- our time less echo and dwell, in whole ms: with an echo, and where our time is past both ("10 ms / zero / arithmetic failure")
unfoldable pub trip_ms : ReceiverReport → ℕ → List ℕ
trip_ms rr ours =
    cond (ltb 0 rr.timestamp_echo && ltb (rr.timestamp_echo + rr.dwell_time) ours)
    ((ours - (rr.timestamp_echo + rr.dwell_time)) ∷ [])
    []

-- "A report processed, neither refused nor stale, gives R .. where metrics.rs takes a sample from its echo, its dwell and our time"; nothing else gives one
unfoldable pub trips_ms : List MetricsCall → List ℕ
trips_ms [] = []
trips_ms (MetricsCall.process_receiver_report rr ours now ∷ l) = trips_ms l ++ cond (stale (kept_after l) rr) [] (trip_ms rr ours)
trips_ms (MetricsCall.reset_for_rekey ∷ l) = trips_ms l
trips_ms (MetricsCall.update_reverse_delivery packets highest ∷ l) = trips_ms l
trips_ms (MetricsCall.reports_seen ∷ l) = trips_ms l
trips_ms (MetricsCall.stale_reports ∷ l) = trips_ms l
trips_ms (MetricsCall.ask q ∷ l) = trips_ms l

-- R in µs, "so each round trip is whole milliseconds"
abbrev pub round_trips : List MetricsCall → List ℕ
round_trips l = multiples 1000 (trips_ms l)

-- ---- the reports processed, stale or not
unfoldable pub processed : List MetricsCall → ℕ
processed [] = 0
processed (MetricsCall.process_receiver_report rr ours now ∷ l) = processed l + 1
processed (MetricsCall.reset_for_rekey ∷ l) = processed l
processed (MetricsCall.update_reverse_delivery packets highest ∷ l) = processed l
processed (MetricsCall.reports_seen ∷ l) = processed l
processed (MetricsCall.stale_reports ∷ l) = processed l
processed (MetricsCall.ask q ∷ l) = processed l
