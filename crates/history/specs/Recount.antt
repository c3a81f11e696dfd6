-- A metrics record with other counts of reports seen and of stale ones: every other field as it is. Definitions only.
use Rattle.std.specs.Prelude.{ℕ}
use Rattle.metrics.specs.declared.MmpMetrics.{MmpMetrics}

abbrev pub recounted : MmpMetrics → ℕ → ℕ → MmpMetrics
recounted m seen stale =
    record {
      srtt = m.srtt;
      rtt_trend = m.rtt_trend;
      loss_trend = m.loss_trend;
      goodput_trend = m.goodput_trend;
      jitter_trend = m.jitter_trend;
      etx_trend = m.etx_trend;
      delivery_ratio_forward = m.delivery_ratio_forward;
      delivery_ratio_reverse = m.delivery_ratio_reverse;
      etx = m.etx;
      goodput_bps = m.goodput_bps;
      prev_rr_cum_packets = m.prev_rr_cum_packets;
      prev_rr_cum_bytes = m.prev_rr_cum_bytes;
      prev_rr_highest_counter = m.prev_rr_highest_counter;
      prev_rr_ecn_ce = m.prev_rr_ecn_ce;
      prev_rr_reorder = m.prev_rr_reorder;
      prev_rr_ms = m.prev_rr_ms;
      has_prev_rr = m.has_prev_rr;
      prev_reverse_packets = m.prev_reverse_packets;
      prev_reverse_highest = m.prev_reverse_highest;
      has_prev_reverse = m.has_prev_reverse;
      reports_seen = seen;
      rtt_samples = m.rtt_samples;
      rtt_zero = m.rtt_zero;
      rtt_arith_fail = m.rtt_arith_fail;
      last_rtt_ms = m.last_rtt_ms;
      stale_reports = stale;
      no_echo_reports = m.no_echo_reports;
    }
