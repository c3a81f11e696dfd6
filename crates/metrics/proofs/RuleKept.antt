-- Each call ends within the rule, floats included: a new record keeps it, and so does the record after any call that is accepted. Refused or not, f64 stay f64.
use mathlib.Core.Path.{◌≡◌, refl, sym, subst}
use mathlib.Core.Bool.{Bool, true, false, cond}
use Prim.Native.Nat.{ℕ, ◌+◌, ◌^◌, ◌<◌}
use native.Mathlib.Omega.{arith}
use lib.Dec.{eqb}
use borrow.Author.Tests.{eq-eqb, eqb-true}
use Rattle.floats.specs.Operations.{zero_float, one_float}
use Rattle.floats.proofs.Ranges.{within→in_range}
use Rattle.refusals.specs.Ranges.{max_etx}
use Rattle.figures.specs.Goodput.{max_goodput}
use Rattle.figures.specs.RoundTrips.{round_trip, tallies_ok}
use Rattle.figures.specs.declared.RoundTrip.{RoundTrip}
use Rattle.figures.specs.declared.RoundTrip.TheVariants.{NoEcho, Sample, Zero, ArithFail}
use Rattle.wire.specs.ReceiverReport.{Fits}
use Rattle.wire.specs.declared.receiver_report.ReceiverReport.{ReceiverReport}
use Rattle.metrics.specs.Fields.{Tallies, one_seen, one_stale, one_no_echo, one_sample, one_zero, one_failure, tallies_in}
use Rattle.metrics.specs.State.{keeps_the_rule, fresh, refusal_of}
use Rattle.metrics.specs.Updates.{rekeyed, rekey_of, reversed, reverse_of}
use Rattle.metrics.specs.Reports.{counted, stale_counted, sampled, rtt_updated, newer_state, process_refusal, process_of}
use Rattle.metrics.specs.declared.MmpMetrics.{MmpMetrics}
use Rattle.metrics.proofs.FiguresInRange.{Floats, InRange, in_range, floats, fresh_in_range, rekeyed_in_range, reversed_in_range}
use Rattle.metrics.proofs.QuestionsAnswered as rule
use Rattle.metrics.proofs.ReportsByCase.{by_case, by_reverse, traffic_leaves, process_refusal_lem}
use Rattle.metrics.proofs.ReportsInRange.{counted_in_range, stale_in_range, newer_in_range}

abbrev Within : Tallies → Type 0
Within t = tallies_ok t.seen t.stale t.no_echo t.samples t.zeros t.failures ≡ true

abbrev Tallied : MmpMetrics → Type 0
Tallied m = Within (tallies_in m)

-- the figures in their ranges, and the counts
keeps : (m : MmpMetrics) → InRange m → Tallied m → keeps_the_rule m ≡ true
keeps m k t = rule.keeps m (record {
  clock = k.clock;
  round_trip = k.rtt.estimator;
  rtt_trend = k.rtt.trend.rule;
  loss_trend = k.trends.loss.rule;
  goodput_trend = k.trends.goodput.rule;
  jitter_trend = k.trends.jitter.rule;
  etx_trend = k.trends.etx.rule;
  forward = within→in_range zero_float one_float m.delivery_ratio_forward k.ratios.forward.within;
  reverse = within→in_range zero_float one_float m.delivery_ratio_reverse k.ratios.reverse.within;
  etx = within→in_range one_float max_etx m.etx k.ratios.etx.within;
  goodput = within→in_range zero_float max_goodput m.goodput_bps k.ratios.goodput.within;
  tallies = t;
})

figures : (m : MmpMetrics) → Floats m → keeps_the_rule m ≡ true → InRange m
figures m f h = in_range m f (rule.kept m h)

-- ---- a new record
pub fresh_keeps_rule : keeps_the_rule fresh ≡ true
fresh_keeps_rule = keeps fresh fresh_in_range refl

pub fresh_floats : Floats fresh
fresh_floats = floats fresh fresh_in_range

-- ---- a rekey
rekeyed_tallied : (m : MmpMetrics) → Tallied m → Tallied (rekeyed m)
unfolding rekeyed
rekeyed_tallied m t = t

pub rekey_keeps_rule : (m : MmpMetrics) → Floats m → (rekey_of m).refusal ≡ 0 → keeps_the_rule (rekey_of m).state ≡ true
unfolding rekey_of
rekey_keeps_rule m f h =
    let r = rule.state_asked m h in
    rw h (keeps (rekeyed m) (rekeyed_in_range m (figures m f r)) (rekeyed_tallied m (rule.kept m r).tallies))

-- ---- the reverse ratio
reversed_tallied : (m : MmpMetrics) (packets highest : ℕ) → Tallied m → Tallied (reversed m packets highest)
unfolding reversed
reversed_tallied m packets highest t = by_reverse Tallied m packets highest (λ h. t) t

pub reverse_keeps_rule : (m : MmpMetrics) (packets highest : ℕ) → packets < 2 ^ 64 → highest < 2 ^ 64 → Floats m → (reverse_of m packets highest).refusal ≡ 0
    → keeps_the_rule (reverse_of m packets highest).state ≡ true
unfolding reverse_of
reverse_keeps_rule m packets highest p l f h =
    let r = rule.state_asked m h in
    rw h (keeps (reversed m packets highest) (reversed_in_range m packets highest p l (figures m f r)) (reversed_tallied m packets highest (rule.kept m r).tallies))

-- ---- a report
-- the sum of the kinds, and what the rule says of it
abbrev kinds : Tallies → ℕ
kinds t = t.stale + t.no_echo + t.samples + t.zeros + t.failures

summed : (t : Tallies) → Within t → kinds t ≡ t.seen
summed t h = eqb-true (kinds t) t.seen h

within : (t : Tallies) → kinds t ≡ t.seen → Within t
within t e = eq-eqb (kinds t) t.seen e

-- one more report, and one more of its kind
stale_tallied : (m : MmpMetrics) → Tallied m → Tallied (stale_counted (counted m))
unfolding stale_counted counted
stale_tallied m h = let e = summed (tallies_in m) h in within (one_stale (one_seen (tallies_in m))) (omega arith)

trip_tallied : (m : MmpMetrics) (t : RoundTrip) → Tallied m → Tallied (rtt_updated (counted m) t)
unfolding rtt_updated sampled counted
trip_tallied m NoEcho h = let e = summed (tallies_in m) h in within (one_no_echo (one_seen (tallies_in m))) (omega arith)
trip_tallied m (Sample ms) h = let e = summed (tallies_in m) h in within (one_sample (one_seen (tallies_in m))) (omega arith)
trip_tallied m Zero h = let e = summed (tallies_in m) h in within (one_zero (one_seen (tallies_in m))) (omega arith)
trip_tallied m ArithFail h = let e = summed (tallies_in m) h in within (one_failure (one_seen (tallies_in m))) (omega arith)

newer_tallied : (m : MmpMetrics) (rr : ReceiverReport) (ours now : ℕ) → Tallied m → Tallied (newer_state (counted m) rr ours now)
unfolding newer_state
newer_tallied m rr ours now t = subst Within (sym (traffic_leaves (rtt_updated (counted m) (round_trip rr ours)) rr now).1) (trip_tallied m (round_trip rr ours) t)

module _ (m : MmpMetrics) (rr : ReceiverReport) (ours now : ℕ) (f : Floats m) (r : Fits rr) (o : ours < 2 ^ 32) where
  newer_within : process_refusal m now ≡ 0 → InRange (newer_state (counted m) rr ours now)
  newer_within h = let y = rule.process_asked m now h in newer_in_range (counted m) rr ours now r o y.clock (counted_in_range m (figures m f y.rule))

  -- stale or not
  pub process_keeps_rule : (process_of m rr ours now).refusal ≡ 0 → keeps_the_rule (process_of m rr ours now).state ≡ true
  process_keeps_rule e =
      by_case m rr ours now (λ p. keeps_the_rule p.state ≡ true)
      (λ h. absurd (h (rw (process_refusal_lem m rr ours now) at e)))
      (λ h s. let y = rule.process_asked m now h in keeps (stale_counted (counted m)) (stale_in_range (counted m) (counted_in_range m (figures m f y.rule))) (stale_tallied m (rule.kept m y.rule).tallies))
      (λ h s. keeps (newer_state (counted m) rr ours now) (newer_within h) (newer_tallied m rr ours now (rule.kept m (rule.process_asked m now h).rule).tallies))

  pub process_floats : Floats (process_of m rr ours now).state
  process_floats =
      by_case m rr ours now (λ p. Floats p.state)
      (λ h. f)
      (λ h s. floats (stale_counted (counted m)) (stale_in_range (counted m) (counted_in_range m (figures m f (rule.process_asked m now h).rule))))
      (λ h s. floats (newer_state (counted m) rr ours now) (newer_within h))

-- ---- f64 stay f64 in the other calls
by_refusal : (P : MmpMetrics → Type 0) (n : ℕ) {s t : MmpMetrics} → (n ≡ 0 → P t) → P s → P (cond (eqb n 0) t s)
by_refusal P n {s} {t} accepted refused = go (eqb n 0) refl
  where
    go : (b : Bool) → eqb n 0 ≡ b → P (cond b t s)
    go true e = accepted (eqb-true n 0 e)
    go false e = refused

pub rekey_floats : (m : MmpMetrics) → Floats m → Floats (rekey_of m).state
unfolding rekey_of
rekey_floats m f = by_refusal Floats (refusal_of m) (λ h. floats (rekeyed m) (rekeyed_in_range m (figures m f (rule.state_asked m h)))) f

pub reverse_floats : (m : MmpMetrics) (packets highest : ℕ) → packets < 2 ^ 64 → highest < 2 ^ 64 → Floats m → Floats (reverse_of m packets highest).state
unfolding reverse_of
reverse_floats m packets highest p l f = by_refusal Floats (refusal_of m) (λ h. floats (reversed m packets highest) (reversed_in_range m packets highest p l (figures m f (rule.state_asked m h)))) f
