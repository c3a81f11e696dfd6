-- What the accessors of metrics.rs answer after question 1. Definitions only.
use Rattle.std.specs.Prelude.{◌&&◌, ℕ, Float, Option, None}
use Rattle.std.specs.Bool.{then_some}
use Rattle.std.specs.Float.{binary64}
use Rattle.floats.specs.Operations.{zero_float, complement}
use Rattle.refusals.specs.Answers.{Answer, answer}
use Rattle.algorithms.specs.Etx.{quality_of}
use Rattle.figures.specs.RoundTrips.{milliseconds_of}
use Rattle.metrics.specs.State.{refusal_of}
use Rattle.metrics.specs.declared.MmpMetrics.{MmpMetrics}
use Rattle.metrics.specs.declared.RrCounters.{RrCounters}

-- SRTT in ms
abbrev pub smoothed_ms : MmpMetrics → Float
smoothed_ms m = milliseconds_of m.srtt.srtt_us

-- SRTT in ms, once measured
unfoldable pub srtt_ms_of : MmpMetrics → Answer (Option Float)
srtt_ms_of m = answer None (refusal_of m) (then_some m.srtt.initialized (smoothed_ms m))

-- what the forward ratio leaves of the whole
unfoldable pub loss_rate_of : MmpMetrics → Answer Float
loss_rate_of m = answer zero_float (refusal_of m) (complement binary64 m.delivery_ratio_forward)

-- the long trends, once begun
unfoldable pub smoothed_loss_of : MmpMetrics → Answer (Option Float)
smoothed_loss_of m = answer None (refusal_of m) (then_some m.loss_trend.initialized m.loss_trend.long)

unfoldable pub smoothed_etx_of : MmpMetrics → Answer (Option Float)
smoothed_etx_of m = answer None (refusal_of m) (then_some m.etx_trend.initialized m.etx_trend.long)

-- the quality index of smoothed ETX and SRTT, once both are measured; the trend may lie outside 1 to 100
unfoldable pub quality_index_of : MmpMetrics → Answer (Option Float)
quality_index_of m = answer None (refusal_of m) (then_some (m.srtt.initialized && m.etx_trend.initialized) (quality_of m.etx_trend.long (smoothed_ms m)))

-- fields
unfoldable pub goodput_bps_of : MmpMetrics → Answer Float
goodput_bps_of m = answer zero_float (refusal_of m) m.goodput_bps

unfoldable pub last_ecn_ce_count_of : MmpMetrics → Answer ℕ
last_ecn_ce_count_of m = answer 0 (refusal_of m) m.prev_rr_ecn_ce

unfoldable pub reports_seen_of : MmpMetrics → Answer ℕ
reports_seen_of m = answer 0 (refusal_of m) m.reports_seen

unfoldable pub rtt_samples_of : MmpMetrics → Answer ℕ
rtt_samples_of m = answer 0 (refusal_of m) m.rtt_samples

unfoldable pub rtt_zero_of : MmpMetrics → Answer ℕ
rtt_zero_of m = answer 0 (refusal_of m) m.rtt_zero

unfoldable pub rtt_arith_fail_of : MmpMetrics → Answer ℕ
rtt_arith_fail_of m = answer 0 (refusal_of m) m.rtt_arith_fail

unfoldable pub stale_reports_of : MmpMetrics → Answer ℕ
stale_reports_of m = answer 0 (refusal_of m) m.stale_reports

unfoldable pub no_echo_reports_of : MmpMetrics → Answer ℕ
no_echo_reports_of m = answer 0 (refusal_of m) m.no_echo_reports

unfoldable pub last_rtt_ms_of : MmpMetrics → Answer (Option ℕ)
last_rtt_ms_of m = answer None (refusal_of m) m.last_rtt_ms

-- highest counter, packets and reorders of the report kept, if one is
unfoldable pub counters_kept : MmpMetrics → Option RrCounters
counters_kept m = then_some m.has_prev_rr (record { highest = m.prev_rr_highest_counter; packets = m.prev_rr_cum_packets; reorders = m.prev_rr_reorder })

unfoldable pub rr_counters_of : MmpMetrics → Answer (Option RrCounters)
rr_counters_of m = answer None (refusal_of m) (counters_kept m)
