-- Every figure of the record stays an f64 in its range through each stage of a report.
use mathlib.Core.Path.{◌≡◌, refl}
use Prim.Native.Nat.{ℕ, ◌-◌, ◌^◌, ◌≤◌, ◌<◌}
use native.Mathlib.Omega.{arith}
use lib.Ieee.{Float}
use borrow.Author.Tests.{le-leb}
use Rattle.refusals.specs.Ranges.{max_clock}
use Rattle.algorithms.proofs.SrttKeepsRule as estimators
use Rattle.figures.specs.RoundTrips.{round_trip, sample_us}
use Rattle.figures.specs.declared.RoundTrip.{RoundTrip}
use Rattle.figures.specs.declared.RoundTrip.TheVariants.{NoEcho, Sample, Zero, ArithFail}
use Rattle.figures.proofs.GoodputInRange.{goodput_kept}
use Rattle.figures.proofs.TripsInRange.{sample_at_most, sample_in_range}
use Rattle.wire.specs.ReceiverReport.{Fits}
use Rattle.wire.specs.declared.receiver_report.ReceiverReport.{ReceiverReport}
use Rattle.metrics.specs.Reports.{counted, stale_counted, sampled, rtt_updated, with_forward, delivery_updated, with_bytes, goodput_updated, jitter_trend_updated, counters_saved, traffic_updated, newer_state}
use Rattle.metrics.specs.declared.MmpMetrics.{MmpMetrics}
use Rattle.metrics.proofs.FiguresInRange.{Ratio, InRange, followed, integer, loss, expected, ratio, etx_of_lem, less}
use Rattle.metrics.proofs.ReportsByCase.{by_delivery, by_bytes}

-- ---- reports seen, and the round trip
pub counted_in_range : (m : MmpMetrics) → InRange m → InRange (counted m)
unfolding counted
counted_in_range m k = k

pub stale_in_range : (m : MmpMetrics) → InRange m → InRange (stale_counted m)
unfolding stale_counted
stale_in_range m k = k

sampled_in_range : (m : MmpMetrics) (ms : ℕ) → ms < 2 ^ 32 → InRange m → InRange (sampled m ms)
unfolding sampled
sampled_in_range m ms h k = record {
  clock = k.clock;
  rtt =
      record {
        estimator = estimators.step_keeps_rule m.srtt _ k.rtt.estimator (sample_in_range ms h);
        trend = followed k.rtt.trend (integer (sample_us ms) (omega arith));
      };
  trends = k.trends;
  ratios = k.ratios;
}

trip_in_range : (m : MmpMetrics) (t : RoundTrip) → ((ms : ℕ) → t ≡ Sample ms → ms < 2 ^ 32) → InRange m → InRange (rtt_updated m t)
unfolding rtt_updated
trip_in_range m NoEcho f k = k
trip_in_range m (Sample ms) f k = sampled_in_range m ms (f ms refl) k
trip_in_range m Zero f k = k
trip_in_range m ArithFail f k = k

-- ---- delivery
forward_in_range : (m : MmpMetrics) (x : Float) → InRange m → Ratio x → InRange (with_forward m x)
forward_in_range m x k h =
    let t = k.trends in
    let q = k.ratios in
    let e = etx_of_lem h q.reverse in
    record {
      clock = k.clock;
      rtt = k.rtt;
      trends = record { loss = followed t.loss (loss h); goodput = t.goodput; jitter = t.jitter; etx = followed t.etx (expected e) };
      ratios = record { forward = h; reverse = q.reverse; etx = e; goodput = q.goodput };
    }

delivery_in_range : (m : MmpMetrics) (rr : ReceiverReport) → Fits rr → InRange m → InRange (delivery_updated m rr)
delivery_in_range m rr f k =
    let span = rr.highest_counter - m.prev_rr_highest_counter in
    let packets = rr.cumulative_packets_recv - m.prev_rr_cum_packets in
    by_delivery InRange m rr
    (λ s. forward_in_range m _ k (ratio packets span (less rr.cumulative_packets_recv m.prev_rr_cum_packets f.cumulative_packets_recv) s (less rr.highest_counter m.prev_rr_highest_counter f.highest_counter)))
    k

-- ---- goodput
bytes_in_range : (m : MmpMetrics) (bytes now : ℕ) → bytes < 2 ^ 64 → now ≤ max_clock → InRange m → InRange (with_bytes m bytes now)
bytes_in_range m bytes now b c k =
    let t = k.trends in
    let q = k.ratios in
    record {
      clock = k.clock;
      rtt = k.rtt;
      trends = record { loss = t.loss; goodput = followed t.goodput (integer bytes (omega arith)); jitter = t.jitter; etx = t.etx };
      ratios =
          record {
            forward = q.forward;
            reverse = q.reverse;
            etx = q.etx;
            goodput = goodput_kept m.goodput_bps bytes m.prev_rr_ms now q.goodput (omega arith) (omega arith);
          };
    }

goodput_in_range : (m : MmpMetrics) (rr : ReceiverReport) (now : ℕ) → Fits rr → now ≤ max_clock → InRange m → InRange (goodput_updated m rr now)
goodput_in_range m rr now f c k =
    by_bytes InRange m rr now (bytes_in_range m _ now (less rr.cumulative_bytes_recv m.prev_rr_cum_bytes f.cumulative_bytes_recv) c k) k

-- ---- the jitter trend, and the report kept
jitter_in_range : (m : MmpMetrics) (rr : ReceiverReport) → Fits rr → InRange m → InRange (jitter_trend_updated m rr)
unfolding jitter_trend_updated
jitter_in_range m rr f k =
    let t = k.trends in
    let j = f.jitter in
    record {
      clock = k.clock;
      rtt = k.rtt;
      trends = record { loss = t.loss; goodput = t.goodput; jitter = followed t.jitter (integer rr.jitter (omega arith)); etx = t.etx };
      ratios = k.ratios;
    }

saved_in_range : (m : MmpMetrics) (rr : ReceiverReport) (now : ℕ) → now ≤ max_clock → InRange m → InRange (counters_saved m rr now)
unfolding counters_saved
saved_in_range m rr now c k = record { clock = le-leb now max_clock c; rtt = k.rtt; trends = k.trends; ratios = k.ratios }

-- ---- the whole
pub newer_in_range : (m : MmpMetrics) (rr : ReceiverReport) (ours now : ℕ) → Fits rr → ours < 2 ^ 32 → now ≤ max_clock → InRange m → InRange (newer_state m rr ours now)
unfolding newer_state traffic_updated
newer_in_range m rr ours now f o c k =
    let t = trip_in_range m (round_trip rr ours) (λ ms e. let l = sample_at_most rr ours ms e in omega arith) k in
    let d = delivery_in_range _ rr f t in
    let b = goodput_in_range _ rr now f c d in
    saved_in_range _ rr now c (jitter_in_range _ rr f b)
