-- A report by its cases: refused, stale, or taken. A refusal and a stale report move no figure; a report taken moves the round trip by its echo alone. The
-- reverse side by its cases: an interval or none.
use mathlib.Core.Path.{◌≡◌, refl, sym, ◌∙◌}
use mathlib.Core.Bool.{Bool, true, false, cond, true≢false, ◌&&◌}
use Prim.Native.Nat.{ℕ, ◌-◌}
use lib.Dec.{eqb, ltb}
use borrow.Author.Tests.{eq-eqb, ne_eqb, eqb-true}
use Rattle.figures.specs.Delivery.{delivery_ratio}
use Rattle.figures.specs.Stale.{stale}
use Rattle.wire.specs.declared.receiver_report.ReceiverReport.{ReceiverReport}
use Rattle.metrics.specs.Fields.{rtt_in, tallies_in}
use Rattle.metrics.specs.State.{saved_in}
use Rattle.metrics.specs.Updates.{with_reverse_ratio, reverse_moved}
use Rattle.metrics.specs.Reports.{counted, with_forward, delivery_updated, with_bytes, goodput_updated, jitter_trend_updated, counters_saved, traffic_updated, newer_report, stale_report, processed, process_refusal, refused, process_of}
use Rattle.metrics.specs.declared.MmpMetrics.{MmpMetrics}
use Rattle.metrics.specs.Reports.{ReportProcessed}

-- ---- by the questions, and by the stale test
module _ (m : MmpMetrics) (rr : ReceiverReport) (ours now : ℕ) where
  accepted_is : process_refusal m now ≡ 0 → process_of m rr ours now ≡ processed (counted m) rr ours now
  unfolding process_of
  accepted_is e = rw (eq-eqb (process_refusal m now) 0 e)

  -- a refusal moves nothing, and logs nothing
  pub refused_is : (process_refusal m now ≡ 0 → ⊥) → process_of m rr ours now ≡ refused (process_refusal m now) m
  unfolding process_of
  refused_is e = rw (ne_eqb (process_refusal m now) 0 e)

  -- a stale report is counted twice, as seen and as stale, and moves nothing else
  pub stale_is : process_refusal m now ≡ 0 → stale (saved_in m) rr ≡ true → process_of m rr ours now ≡ stale_report (counted m)
  unfolding processed saved_in counted
  stale_is e s = accepted_is e ∙ rw s

  -- any other report is counted and taken
  pub newer_is : process_refusal m now ≡ 0 → stale (saved_in m) rr ≡ false → process_of m rr ours now ≡ newer_report (counted m) rr ours now
  unfolding processed saved_in counted
  newer_is e s = accepted_is e ∙ rw s

  -- what holds of the three holds of every report
  pub by_case : (P : ReportProcessed → Type 0)
      → ((process_refusal m now ≡ 0 → ⊥) → P (refused (process_refusal m now) m))
      → (process_refusal m now ≡ 0 → stale (saved_in m) rr ≡ true → P (stale_report (counted m)))
      → (process_refusal m now ≡ 0 → stale (saved_in m) rr ≡ false → P (newer_report (counted m) rr ours now))
      → P (process_of m rr ours now)
  by_case P none old new = go (eqb (process_refusal m now) 0) (stale (saved_in m) rr) refl refl
    where
      not_zero : (n : ℕ) → eqb n 0 ≡ false → n ≡ 0 → ⊥
      not_zero n e z = true≢false (sym (eq-eqb n 0 z) ∙ e)

      go : (a b : Bool) → eqb (process_refusal m now) 0 ≡ a → stale (saved_in m) rr ≡ b → P (process_of m rr ours now)
      go false b e s = let h = not_zero (process_refusal m now) e in rw (refused_is h) (none h)
      go true true e s = let h = eqb-true (process_refusal m now) 0 e in rw (stale_is h s) (old h s)
      go true false e s = let h = eqb-true (process_refusal m now) 0 e in rw (newer_is h s) (new h s)

  -- the refusal is that of the questions
  pub process_refusal_lem : (process_of m rr ours now).refusal ≡ process_refusal m now
  process_refusal_lem = by_case (λ p. p.refusal ≡ process_refusal m now) (λ h. refl) (λ h s. sym h) (λ h s. sym h)

-- ---- the ratios, where there was an interval
by_interval : (P : MmpMetrics → Type 0) (a b : Bool) {m n : MmpMetrics} → (b ≡ true → P n) → P m → P (cond (a && b) n m)
by_interval P false b moved left = left
by_interval P true false moved left = left
by_interval P true true moved left = moved refl

pub by_reverse : (P : MmpMetrics → Type 0) (m : MmpMetrics) (packets highest : ℕ)
    → (ltb 0 (highest - m.prev_reverse_highest) ≡ true → P (with_reverse_ratio m (delivery_ratio (packets - m.prev_reverse_packets) (highest - m.prev_reverse_highest))))
    → P m → P (reverse_moved m packets highest)
unfolding reverse_moved
by_reverse P m packets highest = by_interval P m.has_prev_reverse (ltb 0 (highest - m.prev_reverse_highest))

-- ---- the stages after the round trip
module _ (P : MmpMetrics → Type 0) (m : MmpMetrics) (rr : ReceiverReport) where
  pub by_delivery : (ltb 0 (rr.highest_counter - m.prev_rr_highest_counter) ≡ true
      → P (with_forward m (delivery_ratio (rr.cumulative_packets_recv - m.prev_rr_cum_packets) (rr.highest_counter - m.prev_rr_highest_counter)))) → P m → P (delivery_updated m rr)
  unfolding delivery_updated
  by_delivery = by_interval P m.has_prev_rr (ltb 0 (rr.highest_counter - m.prev_rr_highest_counter))

  pub by_bytes : (now : ℕ) → P (with_bytes m (rr.cumulative_bytes_recv - m.prev_rr_cum_bytes) now) → P m → P (goodput_updated m rr now)
  unfolding goodput_updated
  by_bytes now moved left = by_interval P true m.has_prev_rr (λ h. moved) left

-- what they leave as it was
abbrev pub Left : MmpMetrics → MmpMetrics → Type 0
Left m n = (rtt_in n ≡ rtt_in m) × (tallies_in n ≡ tallies_in m)

pub traffic_leaves : (m : MmpMetrics) (rr : ReceiverReport) (now : ℕ) → Left m (traffic_updated m rr now)
unfolding traffic_updated counters_saved jitter_trend_updated
traffic_leaves m rr now =
    let delivery = by_delivery (Left m) m rr (λ h. (refl, refl)) (refl, refl) in
    by_bytes (Left m) (delivery_updated m rr) rr now delivery delivery
