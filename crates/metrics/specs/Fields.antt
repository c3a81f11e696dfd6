-- The fields of the metrics' record in groups, and the record with one group set: the other groups stay. Definitions only.
use Rattle.std.specs.Prelude.{Bool, ℕ, ◌+◌, Float, Option}
use Rattle.algorithms.specs.declared.ewma.DualEwma.{DualEwma}
use Rattle.algorithms.specs.declared.srtt.SrttEstimator.{SrttEstimator}
use Rattle.figures.specs.declared.Counters.{Counters}
use Rattle.metrics.specs.declared.MmpMetrics.{MmpMetrics}

-- ---- the groups
-- SRTT and RTTVAR, the round trip's trend, and the last sample
pub record Rtt : Type 0 where
  pub estimator : SrttEstimator
  pub trend : DualEwma
  pub last : Option ℕ

-- the other trends
pub record Trends : Type 0 where
  pub loss : DualEwma
  pub goodput : DualEwma
  pub jitter : DualEwma
  pub etx : DualEwma

-- the delivery ratios, ETX by them, and the goodput
pub record Ratios : Type 0 where
  pub forward : Float
  pub reverse : Float
  pub etx : Float
  pub goodput : Float

-- the counters kept of a report, its time, and whether there is one
pub record KeptReport : Type 0 where
  pub counters : Counters
  pub ms : Option ℕ
  pub has : Bool

-- the reverse side's packets and highest counter, and whether there are any
pub record Reverse : Type 0 where
  pub packets : ℕ
  pub highest : ℕ
  pub has : Bool

-- the reports seen, and those of each kind: stale, or fresh with no echo, a sample, a zero or a failed round trip
pub record Tallies : Type 0 where
  pub seen : ℕ
  pub stale : ℕ
  pub no_echo : ℕ
  pub samples : ℕ
  pub zeros : ℕ
  pub failures : ℕ

-- with others for reports seen and stale; and one more of each count
module _ (t : Tallies) where
  abbrev pub two_set : ℕ → ℕ → Tallies
  two_set seen stale = record { seen = seen; stale = stale; no_echo = t.no_echo; samples = t.samples; zeros = t.zeros; failures = t.failures }

  abbrev pub one_seen : Tallies
  one_seen = two_set (t.seen + 1) t.stale

  abbrev pub one_stale : Tallies
  one_stale = two_set t.seen (t.stale + 1)

  abbrev pub one_no_echo : Tallies
  one_no_echo = record { seen = t.seen; stale = t.stale; no_echo = t.no_echo + 1; samples = t.samples; zeros = t.zeros; failures = t.failures }

  abbrev pub one_sample : Tallies
  one_sample = record { seen = t.seen; stale = t.stale; no_echo = t.no_echo; samples = t.samples + 1; zeros = t.zeros; failures = t.failures }

  abbrev pub one_zero : Tallies
  one_zero = record { seen = t.seen; stale = t.stale; no_echo = t.no_echo; samples = t.samples; zeros = t.zeros + 1; failures = t.failures }

  abbrev pub one_failure : Tallies
  one_failure = record { seen = t.seen; stale = t.stale; no_echo = t.no_echo; samples = t.samples; zeros = t.zeros; failures = t.failures + 1 }

-- ---- the record of them
abbrev pub assembled : Rtt → Trends → Ratios → KeptReport → Reverse → Tallies → MmpMetrics
assembled rtt trends ratios kept reverse tallies =
    record {
      srtt = rtt.estimator;
      rtt_trend = rtt.trend;
      loss_trend = trends.loss;
      goodput_trend = trends.goodput;
      jitter_trend = trends.jitter;
      etx_trend = trends.etx;
      delivery_ratio_forward = ratios.forward;
      delivery_ratio_reverse = ratios.reverse;
      etx = ratios.etx;
      goodput_bps = ratios.goodput;
      prev_rr_cum_packets = kept.counters.packets;
      prev_rr_cum_bytes = kept.counters.bytes;
      prev_rr_highest_counter = kept.counters.highest;
      prev_rr_ecn_ce = kept.counters.ecn;
      prev_rr_reorder = kept.counters.reorders;
      prev_rr_ms = kept.ms;
      has_prev_rr = kept.has;
      prev_reverse_packets = reverse.packets;
      prev_reverse_highest = reverse.highest;
      has_prev_reverse = reverse.has;
      reports_seen = tallies.seen;
      rtt_samples = tallies.samples;
      rtt_zero = tallies.zeros;
      rtt_arith_fail = tallies.failures;
      last_rtt_ms = rtt.last;
      stale_reports = tallies.stale;
      no_echo_reports = tallies.no_echo;
    }

module _ (m : MmpMetrics) where
  -- ---- its groups
  abbrev pub rtt_in : Rtt
  rtt_in = record { estimator = m.srtt; trend = m.rtt_trend; last = m.last_rtt_ms }

  abbrev pub trends_in : Trends
  trends_in = record { loss = m.loss_trend; goodput = m.goodput_trend; jitter = m.jitter_trend; etx = m.etx_trend }

  abbrev pub ratios_in : Ratios
  ratios_in = record { forward = m.delivery_ratio_forward; reverse = m.delivery_ratio_reverse; etx = m.etx; goodput = m.goodput_bps }

  abbrev pub counters_in : Counters
  counters_in =
      record {
        highest = m.prev_rr_highest_counter;
        packets = m.prev_rr_cum_packets;
        bytes = m.prev_rr_cum_bytes;
        ecn = m.prev_rr_ecn_ce;
        reorders = m.prev_rr_reorder;
      }

  abbrev pub kept_in : KeptReport
  kept_in = record { counters = counters_in; ms = m.prev_rr_ms; has = m.has_prev_rr }

  abbrev pub reverse_in : Reverse
  reverse_in = record { packets = m.prev_reverse_packets; highest = m.prev_reverse_highest; has = m.has_prev_reverse }

  abbrev pub tallies_in : Tallies
  tallies_in =
      record {
        seen = m.reports_seen;
        stale = m.stale_reports;
        no_echo = m.no_echo_reports;
        samples = m.rtt_samples;
        zeros = m.rtt_zero;
        failures = m.rtt_arith_fail;
      }

  -- ---- with one group set
  abbrev pub with_rtt : Rtt → MmpMetrics
  with_rtt r = assembled r trends_in ratios_in kept_in reverse_in tallies_in

  abbrev pub with_trends : Trends → MmpMetrics
  with_trends t = assembled rtt_in t ratios_in kept_in reverse_in tallies_in

  abbrev pub with_ratios : Ratios → MmpMetrics
  with_ratios r = assembled rtt_in trends_in r kept_in reverse_in tallies_in

  abbrev pub with_kept : KeptReport → MmpMetrics
  with_kept k = assembled rtt_in trends_in ratios_in k reverse_in tallies_in

  abbrev pub with_reverse : Reverse → MmpMetrics
  with_reverse r = assembled rtt_in trends_in ratios_in kept_in r tallies_in

  abbrev pub with_tallies : Tallies → MmpMetrics
  with_tallies t = assembled rtt_in trends_in ratios_in kept_in reverse_in t

  -- reports seen and stale alone
  abbrev pub with_two : ℕ → ℕ → MmpMetrics
  with_two seen stale = with_tallies (two_set tallies_in seen stale)
