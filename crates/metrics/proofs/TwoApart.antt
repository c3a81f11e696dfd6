-- The counts of reports seen and of stale ones move no other figure: two records that differ in them alone differ in them alone after every call, and get the same outcomes.
use mathlib.Core.Path.{◌≡◌, refl, ap, ◌∙◌}
use mathlib.Core.Bool.{Bool, true, false, cond, not, ◌&&◌}
use Prim.Native.Nat.{ℕ, ◌-◌}
use lib.Dec.{ltb}
use Rattle.figures.specs.RoundTrips.{round_trip}
use Rattle.figures.specs.declared.RoundTrip.{RoundTrip}
use Rattle.figures.specs.declared.RoundTrip.TheVariants.{NoEcho, Sample, Zero, ArithFail}
use Rattle.wire.specs.declared.receiver_report.ReceiverReport.{ReceiverReport}
use Rattle.metrics.specs.Fields.{with_two, with_reverse}
use Rattle.metrics.specs.Updates.{rekeyed, with_reverse_ratio, reverse_moved, reversed}
use Rattle.metrics.specs.Reports.{sampled, rtt_updated, rtt_log, with_forward, delivery_updated, with_bytes, goodput_updated, jitter_trend_updated, counters_saved, traffic_updated, newer_state, newer_outcome, outcome_of}
use Rattle.metrics.specs.declared.MmpMetrics.{MmpMetrics}

-- a choice of two
either_apart : (seen stale : ℕ) (b : Bool) (n m : MmpMetrics) → cond b (with_two n seen stale) (with_two m seen stale) ≡ with_two (cond b n m) seen stale
either_apart seen stale true n m = refl
either_apart seen stale false n m = refl

module _ (m : MmpMetrics) (seen stale : ℕ) where
  -- ---- the stages
  trip_apart : (t : RoundTrip) → rtt_updated (with_two m seen stale) t ≡ with_two (rtt_updated m t) seen stale
  unfolding rtt_updated sampled
  trip_apart NoEcho = refl
  trip_apart (Sample ms) = refl
  trip_apart Zero = refl
  trip_apart ArithFail = refl

  log_apart : (t : RoundTrip) → rtt_log (with_two m seen stale) t ≡ rtt_log m t
  unfolding rtt_log
  log_apart NoEcho = refl
  log_apart (Sample ms) = refl
  log_apart Zero = refl
  log_apart ArithFail = refl

  delivery_apart : (rr : ReceiverReport) → delivery_updated (with_two m seen stale) rr ≡ with_two (delivery_updated m rr) seen stale
  unfolding delivery_updated
  delivery_apart rr = either_apart seen stale (m.has_prev_rr && ltb 0 (rr.highest_counter - m.prev_rr_highest_counter)) (with_forward m _) m

  goodput_apart : (rr : ReceiverReport) (now : ℕ) → goodput_updated (with_two m seen stale) rr now ≡ with_two (goodput_updated m rr now) seen stale
  unfolding goodput_updated
  goodput_apart rr now = either_apart seen stale m.has_prev_rr (with_bytes m _ now) m

  later_apart : (rr : ReceiverReport) (now : ℕ) → counters_saved (jitter_trend_updated (with_two m seen stale) rr) rr now ≡ with_two (counters_saved (jitter_trend_updated m rr) rr now) seen stale
  unfolding counters_saved jitter_trend_updated
  later_apart rr now = refl

-- ---- the calls
traffic_apart : (m : MmpMetrics) (seen stale : ℕ) (rr : ReceiverReport) (now : ℕ) → traffic_updated (with_two m seen stale) rr now ≡ with_two (traffic_updated m rr now) seen stale
unfolding traffic_updated
traffic_apart m seen stale rr now =
    ap (λ n. counters_saved (jitter_trend_updated (goodput_updated n rr now) rr) rr now) (delivery_apart m seen stale rr)
    ∙ ap (λ n. counters_saved (jitter_trend_updated n rr) rr now) (goodput_apart (delivery_updated m rr) seen stale rr now)
    ∙ later_apart (goodput_updated (delivery_updated m rr) rr now) seen stale rr now

pub newer_apart : (m : MmpMetrics) (seen stale : ℕ) (rr : ReceiverReport) (ours now : ℕ) → newer_state (with_two m seen stale) rr ours now ≡ with_two (newer_state m rr ours now) seen stale
unfolding newer_state
newer_apart m seen stale rr ours now = ap (λ n. traffic_updated n rr now) (trip_apart m seen stale (round_trip rr ours)) ∙ traffic_apart (rtt_updated m (round_trip rr ours)) seen stale rr now

pub outcome_apart : (m : MmpMetrics) (seen stale : ℕ) (rr : ReceiverReport) (ours now : ℕ) → newer_outcome (with_two m seen stale) rr ours now ≡ newer_outcome m rr ours now
outcome_apart m seen stale rr ours now =
    ap (λ n. outcome_of (not m.srtt.initialized && n.srtt.initialized) (rtt_log (with_two m seen stale) (round_trip rr ours))) (newer_apart m seen stale rr ours now)
    ∙ ap (λ entry. outcome_of (not m.srtt.initialized && (newer_state m rr ours now).srtt.initialized) entry) (log_apart m seen stale (round_trip rr ours))

pub rekeyed_apart : (m : MmpMetrics) (seen stale : ℕ) → rekeyed (with_two m seen stale) ≡ with_two (rekeyed m) seen stale
unfolding rekeyed
rekeyed_apart m seen stale = refl

pub reversed_apart : (m : MmpMetrics) (seen stale packets highest : ℕ) → reversed (with_two m seen stale) packets highest ≡ with_two (reversed m packets highest) seen stale
unfolding reversed reverse_moved
reversed_apart m seen stale packets highest =
    ap (λ n. with_reverse n (record { packets = packets; highest = highest; has = true }))
    (either_apart seen stale (m.has_prev_reverse && ltb 0 (highest - m.prev_reverse_highest)) (with_reverse_ratio m _) m)
