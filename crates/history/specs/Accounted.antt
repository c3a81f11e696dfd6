-- What one accepted call does to the counts of a metrics record, whether histories reach the record or not: document 02, W-205, "every report accounted for". A report
-- raises reports seen and the one kind that its log entry shows; no other call raises or clears any. Definitions only.
use Rattle.std.specs.Prelude.{◌≡◌, cond, ℕ, ◌+◌, eqb, Float}
use Rattle.metrics.specs.declared.MmpMetrics.{MmpMetrics}
use Rattle.metrics.specs.declared.Outcome.{Outcome}
use Rattle.metrics.specs.declared.RrLog.{RrLog}
use Rattle.metrics.specs.declared.RrLog.TheVariants as log
use Rattle.history.specs.Answers.{Answer}
use Rattle.history.specs.MetricsCalls.{MetricsCall, metrics_step}
use Rattle.history.specs.Kinds.{Kind, of_stale, of_no_echo, of_sample, of_zero, of_failure, place}

-- the count of a kind
abbrev pub tally : Kind → MmpMetrics → ℕ
tally of_stale m = m.stale_reports
tally of_no_echo m = m.no_echo_reports
tally of_sample m = m.rtt_samples
tally of_zero m = m.rtt_zero
tally of_failure m = m.rtt_arith_fail

-- the entries that a report of a kind may be logged with: a zero and a failure share one
pub data Logged : Kind → RrLog → Type 0 where
  as_stale : {highest packets bytes : ℕ} → Logged of_stale (log.Stale highest packets bytes)
  as_no_echo : Logged of_no_echo log.None
  as_sample : {ms : ℕ} {srtt : Float} → Logged of_sample (log.RttSample ms srtt)
  as_zero : Logged of_zero log.InvalidRtt
  as_failure : Logged of_failure log.InvalidRtt

-- one kind rises by 1, the four others stay, and reports seen rise by 1
pub record Raised (j : Kind) (m n : MmpMetrics) : Type 0 where
  pub kinds : (k : Kind) → tally k n ≡ tally k m + cond (eqb (place k) (place j)) 1 0
  pub seen : n.reports_seen ≡ m.reports_seen + 1

-- a report: the kind is the one that the log shows
pub record Accounted (m n : MmpMetrics) (o : Outcome) : Type 0 where
  pub kind : Kind
  pub logged : Logged kind o.log
  pub raised : Raised kind m n

-- any other call
pub record Uncounted (m n : MmpMetrics) : Type 0 where
  pub kinds : (k : Kind) → tally k n ≡ tally k m
  pub seen : n.reports_seen ≡ m.reports_seen

abbrev pub Counts : MetricsCall → MmpMetrics → MmpMetrics → Answer → Type 0
Counts (MetricsCall.process_receiver_report rr ours now) m n a = (o : Outcome) → a ≡ Answer.outcome o → Accounted m n o
Counts MetricsCall.reset_for_rekey m n a = Uncounted m n
Counts (MetricsCall.update_reverse_delivery packets highest) m n a = Uncounted m n
Counts MetricsCall.reports_seen m n a = Uncounted m n
Counts MetricsCall.stale_reports m n a = Uncounted m n
Counts (MetricsCall.ask q) m n a = Uncounted m n

-- of every accepted call on any record
abbrev pub AccountedHolds : Type 0
AccountedHolds = (c : MetricsCall) (m : MmpMetrics) → (metrics_step c m).refusal ≡ 0 → Counts c m (metrics_step c m).state (metrics_step c m).answer
