-- What a rekey does to a metrics record: document 01, "Round trip, ratios and trends", "Rekey clears the saved counters and sets the forward ratio to 1; ETX and
-- every other figure stay". Definitions only.
use Rattle.std.specs.Prelude.{◌≡◌, false, pos, None}
use Rattle.std.specs.Float.{binary64}
use Rattle.std.specs.Float.Ieee.{of_int}
use Rattle.metrics.specs.declared.MmpMetrics.{MmpMetrics}
use Rattle.history.specs.MetricsCalls.{MetricsCall, metrics_step}

-- "clears the saved counters": no report is kept, and no update of the reverse side
pub record Cleared (n : MmpMetrics) : Type 0 where
  pub packets : n.prev_rr_cum_packets ≡ 0
  pub bytes : n.prev_rr_cum_bytes ≡ 0
  pub highest : n.prev_rr_highest_counter ≡ 0
  pub ecn : n.prev_rr_ecn_ce ≡ 0
  pub reorders : n.prev_rr_reorder ≡ 0
  pub time : n.prev_rr_ms ≡ None
  pub none_kept : n.has_prev_rr ≡ false
  pub reverse_packets : n.prev_reverse_packets ≡ 0
  pub reverse_highest : n.prev_reverse_highest ≡ 0
  pub no_reverse : n.has_prev_reverse ≡ false

-- "ETX and every other figure stay"
pub record Stays (m n : MmpMetrics) : Type 0 where
  pub round_trip : n.srtt ≡ m.srtt
  pub rtt_trend : n.rtt_trend ≡ m.rtt_trend
  pub loss_trend : n.loss_trend ≡ m.loss_trend
  pub goodput_trend : n.goodput_trend ≡ m.goodput_trend
  pub jitter_trend : n.jitter_trend ≡ m.jitter_trend
  pub etx_trend : n.etx_trend ≡ m.etx_trend
  pub reverse : n.delivery_ratio_reverse ≡ m.delivery_ratio_reverse
  pub etx : n.etx ≡ m.etx
  pub goodput : n.goodput_bps ≡ m.goodput_bps
  pub seen : n.reports_seen ≡ m.reports_seen
  pub samples : n.rtt_samples ≡ m.rtt_samples
  pub zeros : n.rtt_zero ≡ m.rtt_zero
  pub failures : n.rtt_arith_fail ≡ m.rtt_arith_fail
  pub last : n.last_rtt_ms ≡ m.last_rtt_ms
  pub stale : n.stale_reports ≡ m.stale_reports
  pub no_echo : n.no_echo_reports ≡ m.no_echo_reports

pub record Rekeyed (m n : MmpMetrics) : Type 0 where
  pub cleared : Cleared n
  -- "sets the forward ratio to 1"
  pub forward : n.delivery_ratio_forward ≡ of_int binary64 (pos 1)
  pub stays : Stays m n

-- every rekey that is accepted
abbrev pub RekeyHolds : Type 0
RekeyHolds = (m : MmpMetrics) → (metrics_step MetricsCall.reset_for_rekey m).refusal ≡ 0 → Rekeyed m (metrics_step MetricsCall.reset_for_rekey m).state
