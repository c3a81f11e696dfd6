-- What a report processed is logged with: document 01, "Round trip, ratios and trends", "An RTT log entry carries the whole milliseconds and the SRTT from before the
-- sample". Definitions only.
use Rattle.std.specs.Prelude.{◌≡◌, Bool, [], ◌∷◌, ℕ, pos, Float}
use Rattle.std.specs.Float.{binary64}
use Rattle.std.specs.Float.Ieee.{div, of_int}
use Rattle.wire.specs.declared.receiver_report.ReceiverReport.{ReceiverReport}
use Rattle.metrics.specs.declared.MmpMetrics.{MmpMetrics}
use Rattle.metrics.specs.declared.RrLog.TheVariants.{RttSample}
use Rattle.history.specs.Answers.{Answer}
use Rattle.history.specs.MetricsCalls.{MetricsCall, metrics_step}
use Rattle.history.specs.ExactRoundTrip.{trip_ms}

-- the entry's ms are the report's round trip, and its SRTT, in ms, is that of the record handed in
pub record Logged (m : MmpMetrics) (rr : ReceiverReport) (ours ms : ℕ) (srtt : Float) : Type 0 where
  pub whole : trip_ms rr ours ≡ ms ∷ []
  pub before : srtt ≡ div binary64 (of_int binary64 m.srtt.srtt_us) (of_int binary64 (pos 1000))

-- of every report whose outcome has such an entry
abbrev pub LogHolds : Type 0
LogHolds =
    (m : MmpMetrics) (rr : ReceiverReport) (ours now ms : ℕ) (srtt : Float) (first : Bool) →
    (metrics_step (MetricsCall.process_receiver_report rr ours now) m).answer ≡ Answer.outcome (record { first_srtt = first; log = RttSample ms srtt }) →
    Logged m rr ours ms srtt
