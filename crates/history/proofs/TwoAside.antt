-- A metrics record that has seen fewer stale reports answers and moves as it would have otherwise, and its counts of reports seen and of stale ones stay lower by
-- as many.
use mathlib.Core.Path.{◌≡◌, refl, sym, subst, ◌∙◌, ap}
use mathlib.Core.Logic.{◌≢◌}
use mathlib.Core.Bool.{Bool, true, false, ◌&&◌}
use mathlib.Core.List.{List, [], ◌∷◌}
use Prim.Native.Nat.{ℕ, ◌+◌, ◌^◌}
use native.Mathlib.Omega.{arith}
use borrow.Author.Tests.{lt-ltb, ltb-true}
use Rattle.refusals.specs.Answers.{answer}
use Rattle.refusals.specs.Questions.{question, first_no}
use Rattle.refusals.specs.Ranges.{optional_clock_ok, clock_ok, counter_ok}
use Rattle.wire.specs.declared.receiver_report.ReceiverReport.{ReceiverReport}
use Rattle.algorithms.specs.Srtt as estimator
use Rattle.figures.specs.Stale.{stale}
use Rattle.figures.specs.RoundTrips.{round_trip}
use Rattle.figures.specs.declared.RoundTrip.{RoundTrip}
use Rattle.figures.specs.declared.RoundTrip.TheVariants.{NoEcho, Sample, Zero, ArithFail}
use Rattle.figures.proofs.SameTest.{same_test}
use Rattle.metrics.specs.Fields.{Tallies, tallies_in, with_two}
use Rattle.metrics.specs.State.{trends_ok, ratios_ok, keeps_the_rule, saved_in, refusal_of}
use Rattle.metrics.specs.Reports.{counted, stale_counted, sampled, rtt_updated, newer_state, process_refusal, process_of}
use Rattle.metrics.specs.Updates.{rekeyed, rekey_of, reversed, reverse_of}
use Rattle.metrics.specs.Accessors.{
  counters_kept,
  srtt_ms_of,
  loss_rate_of,
  smoothed_loss_of,
  quality_index_of,
  smoothed_etx_of,
  goodput_bps_of,
  last_ecn_ce_count_of,
  rr_counters_of,
  reports_seen_of,
  rtt_samples_of,
  rtt_zero_of,
  rtt_arith_fail_of,
  stale_reports_of,
  no_echo_reports_of,
  last_rtt_ms_of,
}
use Rattle.metrics.specs.declared.MmpMetrics.{MmpMetrics}
use Rattle.metrics.specs.Reports.{ReportProcessed}
use Rattle.metrics.proofs.ReportsByCase.{process_refusal_lem, refused_is, stale_is, newer_is, by_case, by_reverse, traffic_leaves}
use Rattle.metrics.proofs.TwoApart.{newer_apart, outcome_apart, rekeyed_apart, reversed_apart}
use Rattle.history.specs.Answers.{Fact, Answer, Told}
use Rattle.history.specs.MetricsCalls.{MetricsQuestion, metrics_told, MetricsCall, metrics_step}
use Rattle.history.specs.ExactRoundTrip as exact
use Rattle.history.specs.Recount.{recounted}
use Rattle.history.specs.NoCreep.{restore_metrics}
use Rattle.history.proofs.RoundTripTied as trips
use Rattle.history.proofs.RoundTripTied.{Tied}

-- s and v can stand for reports seen and stale: each is d less
pub record Low (d s v : ℕ) (t : Tallies) : Type 0 where
  pub seen : s + d ≡ t.seen
  pub stale : v + d ≡ t.stale

-- n is m, having seen d stale reports fewer
pub record Like (d : ℕ) (m n : MmpMetrics) : Type 0 where
  pub s : ℕ
  pub v : ℕ
  pub same : n ≡ with_two m s v
  pub low : Low d s v (tallies_in m)

-- of two calls that are refused alike the questions are too
asked_alike : (m : MmpMetrics) (rr : ReceiverReport) (ours now s v : ℕ) → (process_of (with_two m s v) rr ours now).refusal ≡ (process_of m rr ours now).refusal → process_refusal (with_two m s v) now ≡ process_refusal m now
asked_alike m rr ours now s v e = sym (process_refusal_lem (with_two m s v) rr ours now) ∙ e ∙ process_refusal_lem m rr ours now

module _ {d : ℕ} where
  -- ---- the rule
  rule_two : (m : MmpMetrics) (s v : ℕ) → Low d s v (tallies_in m) → keeps_the_rule (with_two m s v) ≡ keeps_the_rule m
  unfolding keeps_the_rule trends_ok ratios_ok
  rule_two m s v h =
      let e = h.seen in
      let f = h.stale in
      ap (λ (b : Bool). optional_clock_ok m.prev_rr_ms && estimator.keeps_the_rule m.srtt && trends_ok m && ratios_ok m && b)
      (same_test
      (v + m.no_echo_reports + m.rtt_samples + m.rtt_zero + m.rtt_arith_fail)
      s
      (m.stale_reports + m.no_echo_reports + m.rtt_samples + m.rtt_zero + m.rtt_arith_fail)
      m.reports_seen
      (λ z. omega arith)
      (λ z. omega arith))

  refusal_two : (m : MmpMetrics) (s v : ℕ) → Low d s v (tallies_in m) → refusal_of (with_two m s v) ≡ refusal_of m
  unfolding refusal_of
  refusal_two m s v h = ap (λ (b : Bool). first_no (question 1 b ∷ [])) (rule_two m s v h)

  -- a counter that could hold one more can do so with a lower count
  process_refusal_two : (m : MmpMetrics) (now s v : ℕ) → Low d s v (tallies_in m) → process_refusal m now ≢ 10 → process_refusal (with_two m s v) now ≡ process_refusal m now
  unfolding process_refusal first_no
  process_refusal_two m now s v h ne = rw (rule_two m s v h) (go (keeps_the_rule m) (clock_ok now) (counter_ok 64 m.reports_seen 1) refl ne)
    where
      go : (a b c : Bool) → counter_ok 64 m.reports_seen 1 ≡ c →
          first_no (question 1 a ∷ question 2 b ∷ question 10 c ∷ []) ≢ 10 →
          first_no (question 1 a ∷ question 2 b ∷ question 10 (counter_ok 64 s 1) ∷ []) ≡ first_no (question 1 a ∷ question 2 b ∷ question 10 c ∷ [])
      go false b c e ne = refl
      go true false c e ne = refl
      go true true false e ne = absurd (ne refl)
      go true true true e ne =
          let room = ltb-true (m.reports_seen + 1) (2 ^ 64) e in
          rw (lt-ltb (s + 1) (2 ^ 64) (let b = h.seen in omega arith))

  -- ---- what an accepted call leaves counted
  counted_low : (m : MmpMetrics) (t : RoundTrip) (s v : ℕ) → Low d s v (tallies_in m) → Low d (s + 1) v (tallies_in (rtt_updated (counted m) t))
  unfolding counted rtt_updated sampled
  counted_low m NoEcho s v h = let a = h.seen in record { seen = omega arith; stale = h.stale }
  counted_low m (Sample ms) s v h = let a = h.seen in record { seen = omega arith; stale = h.stale }
  counted_low m Zero s v h = let a = h.seen in record { seen = omega arith; stale = h.stale }
  counted_low m ArithFail s v h = let a = h.seen in record { seen = omega arith; stale = h.stale }

  taken_low : (m : MmpMetrics) (rr : ReceiverReport) (ours now s v : ℕ) → Low d s v (tallies_in m) → Low d (s + 1) v (tallies_in (newer_state (counted m) rr ours now))
  unfolding newer_state
  taken_low m rr ours now s v h = subst (Low d (s + 1) v) (sym (traffic_leaves (rtt_updated (counted m) (round_trip rr ours)) rr now).1) (counted_low m (round_trip rr ours) s v h)

  reversed_low : (m : MmpMetrics) (packets highest s v : ℕ) → Low d s v (tallies_in m) → Low d s v (tallies_in (reversed m packets highest))
  unfolding reversed
  reversed_low m packets highest s v h = by_reverse (λ n. Low d s v (tallies_in n)) m packets highest (λ i. h) h

  -- ---- a report, refused, stale or taken alike
  module _ (m : MmpMetrics) (rr : ReceiverReport) (ours now s v : ℕ) (h : Low d s v (tallies_in m)) where
    abbrev fewer : ReportProcessed
    fewer = process_of (with_two m s v) rr ours now

    module _ (e : process_refusal (with_two m s v) now ≡ process_refusal m now) where
      outcome_two : fewer.outcome ≡ (process_of m rr ours now).outcome
      unfolding saved_in counted
      outcome_two =
          by_case m rr ours now (λ p. fewer.outcome ≡ p.outcome)
          (λ ne. ap (λ (p : ReportProcessed). p.outcome) (refused_is (with_two m s v) rr ours now (λ z. ne (sym e ∙ z))))
          (λ z old. ap (λ (p : ReportProcessed). p.outcome) (stale_is (with_two m s v) rr ours now (e ∙ z) old))
          (λ z new. ap (λ (p : ReportProcessed). p.outcome) (newer_is (with_two m s v) rr ours now (e ∙ z) new) ∙ outcome_apart (counted m) (s + 1) v rr ours now)

      state_two : process_refusal m now ≡ 0 → Like d (process_of m rr ours now).state fewer.state
      unfolding saved_in counted stale_counted
      state_two accepted =
          by_case m rr ours now (λ p. Like d p.state fewer.state)
          (λ ne. absurd (ne accepted))
          (λ z old. record {
            s = s + 1;
            v = v + 1;
            same = ap (λ (p : ReportProcessed). p.state) (stale_is (with_two m s v) rr ours now (e ∙ z) old);
            low = let a = h.seen in let b = h.stale in record { seen = omega arith; stale = omega arith };
          })
          (λ z new. record {
            s = s + 1;
            v = v;
            same = ap (λ (p : ReportProcessed). p.state) (newer_is (with_two m s v) rr ours now (e ∙ z) new) ∙ newer_apart (counted m) (s + 1) v rr ours now;
            low = taken_low m rr ours now s v h;
          })

  -- ---- a question's answer does not change
  told_two : (q : MetricsQuestion) (m : MmpMetrics) (s v : ℕ) → Low d s v (tallies_in m) → metrics_told q (with_two m s v) ≡ metrics_told q m
  unfolding metrics_told srtt_ms_of loss_rate_of smoothed_loss_of quality_index_of smoothed_etx_of goodput_bps_of last_ecn_ce_count_of rr_counters_of rtt_samples_of rtt_zero_of rtt_arith_fail_of no_echo_reports_of last_rtt_ms_of answer counters_kept
  told_two MetricsQuestion.keeps_rule m s v h = rw (rule_two m s v h)
  told_two MetricsQuestion.srtt_ms m s v h = rw (refusal_two m s v h)
  told_two MetricsQuestion.loss_rate m s v h = rw (refusal_two m s v h)
  told_two MetricsQuestion.smoothed_loss m s v h = rw (refusal_two m s v h)
  told_two MetricsQuestion.quality_index m s v h = rw (refusal_two m s v h)
  told_two MetricsQuestion.smoothed_etx m s v h = rw (refusal_two m s v h)
  told_two MetricsQuestion.goodput_bps m s v h = rw (refusal_two m s v h)
  told_two MetricsQuestion.last_ecn_ce_count m s v h = rw (refusal_two m s v h)
  told_two MetricsQuestion.rr_counters m s v h = rw (refusal_two m s v h)
  told_two MetricsQuestion.rtt_samples m s v h = rw (refusal_two m s v h)
  told_two MetricsQuestion.rtt_zero m s v h = rw (refusal_two m s v h)
  told_two MetricsQuestion.rtt_arith_fail m s v h = rw (refusal_two m s v h)
  told_two MetricsQuestion.no_echo_reports m s v h = rw (refusal_two m s v h)
  told_two MetricsQuestion.last_rtt_ms m s v h = rw (refusal_two m s v h)

  -- ---- every call, on a record that has seen fewer
  two_refusal : (c : MetricsCall) (m : MmpMetrics) (s v : ℕ) → Low d s v (tallies_in m) → (metrics_step c m).refusal ≢ 10 → (metrics_step c (with_two m s v)).refusal ≡ (metrics_step c m).refusal
  unfolding metrics_step rekey_of reverse_of reports_seen_of stale_reports_of answer
  two_refusal (MetricsCall.process_receiver_report rr ours now) m s v h ne =
      process_refusal_lem (with_two m s v) rr ours now
      ∙ process_refusal_two m now s v h (λ e. ne (process_refusal_lem m rr ours now ∙ e))
      ∙ sym (process_refusal_lem m rr ours now)
  two_refusal MetricsCall.reset_for_rekey m s v h ne = refusal_two m s v h
  two_refusal (MetricsCall.update_reverse_delivery packets highest) m s v h ne = refusal_two m s v h
  two_refusal MetricsCall.reports_seen m s v h ne = refusal_two m s v h
  two_refusal MetricsCall.stale_reports m s v h ne = refusal_two m s v h
  two_refusal (MetricsCall.ask q) m s v h ne = ap (λ (t : Told). t.refusal) (told_two q m s v h)

  -- reports seen and stale, where nothing refuses
  seen_told : (m : MmpMetrics) (s v : ℕ) → Low d s v (tallies_in m) → keeps_the_rule m ≡ true → (reports_seen_of (with_two m s v)).value + d ≡ (reports_seen_of m).value
  unfolding reports_seen_of answer refusal_of first_no
  seen_told m s v h rule = rw (rule_two m s v h, rule) h.seen

  stale_told : (m : MmpMetrics) (s v : ℕ) → Low d s v (tallies_in m) → keeps_the_rule m ≡ true → (stale_reports_of (with_two m s v)).value + d ≡ (stale_reports_of m).value
  unfolding stale_reports_of answer refusal_of first_no
  stale_told m s v h rule = rw (rule_two m s v h, rule) h.stale

  two_answer : (c : MetricsCall) (m : MmpMetrics) (s v : ℕ) → Low d s v (tallies_in m) → keeps_the_rule m ≡ true → (metrics_step c (with_two m s v)).refusal ≡ (metrics_step c m).refusal →
      restore_metrics d c (metrics_step c (with_two m s v)).answer ≡ (metrics_step c m).answer
  unfolding metrics_step
  two_answer (MetricsCall.process_receiver_report rr ours now) m s v h rule e = ap Answer.outcome (outcome_two m rr ours now s v h (asked_alike m rr ours now s v e))
  two_answer MetricsCall.reset_for_rekey m s v h rule e = refl
  two_answer (MetricsCall.update_reverse_delivery packets highest) m s v h rule e = refl
  two_answer MetricsCall.reports_seen m s v h rule e = ap (λ (n : ℕ). Answer.told (Fact.number n)) (seen_told m s v h rule)
  two_answer MetricsCall.stale_reports m s v h rule e = ap (λ (n : ℕ). Answer.told (Fact.number n)) (stale_told m s v h rule)
  two_answer (MetricsCall.ask q) m s v h rule e = ap (λ (t : Told). Answer.told t.fact) (told_two q m s v h)

  two_state : (c : MetricsCall) (m : MmpMetrics) (s v : ℕ) → Low d s v (tallies_in m) → (metrics_step c m).refusal ≡ 0 → (metrics_step c (with_two m s v)).refusal ≡ 0 → Like d (metrics_step c m).state (metrics_step c (with_two m s v)).state
  unfolding metrics_step rekey_of reverse_of rekeyed
  two_state (MetricsCall.process_receiver_report rr ours now) m s v h e f =
      state_two m rr ours now s v h (asked_alike m rr ours now s v (f ∙ sym e)) (sym (process_refusal_lem m rr ours now) ∙ e)
  two_state MetricsCall.reset_for_rekey m s v h e f = rw (e, f) (record { s = s; v = v; same = rekeyed_apart m s v; low = h })
  two_state (MetricsCall.update_reverse_delivery packets highest) m s v h e f =
      rw (e, f) (record { s = s; v = v; same = reversed_apart m s v packets highest; low = reversed_low m packets highest s v h })
  two_state MetricsCall.reports_seen m s v h e f = record { s = s; v = v; same = refl; low = h }
  two_state MetricsCall.stale_reports m s v h e f = record { s = s; v = v; same = refl; low = h }
  two_state (MetricsCall.ask q) m s v h e f = record { s = s; v = v; same = refl; low = h }

  -- ---- two records that are alike
  module _ (c : MetricsCall) (m n : MmpMetrics) (l : Like d m n) where
    pub refusal_alike : (metrics_step c m).refusal ≢ 10 → (metrics_step c n).refusal ≡ (metrics_step c m).refusal
    refusal_alike ne = rw l.same (two_refusal c m l.s l.v l.low ne)

    pub answer_alike : keeps_the_rule m ≡ true → (metrics_step c n).refusal ≡ (metrics_step c m).refusal → restore_metrics d c (metrics_step c n).answer ≡ (metrics_step c m).answer
    answer_alike rule e = rw l.same (two_answer c m l.s l.v l.low rule (rw l.same at e))

    pub state_alike : (metrics_step c m).refusal ≡ 0 → (metrics_step c n).refusal ≡ 0 → Like d (metrics_step c m).state (metrics_step c n).state
    state_alike e f = rw l.same (two_state c m l.s l.v l.low e (rw l.same at f))

  -- a stale report raises the two counts by one alone
  stale_process : (m n : MmpMetrics) (rr : ReceiverReport) (ours now : ℕ) → Like d m n → process_refusal m now ≡ 0 → stale (saved_in m) rr ≡ true → Like (d + 1) (process_of m rr ours now).state n
  unfolding counted stale_counted
  stale_process m n rr ours now l e st =
      rw (stale_is m rr ours now e st)
      (let a = l.low.seen in let b = l.low.stale in record { s = l.s; v = l.v; same = l.same; low = record { seen = omega arith; stale = omega arith } })

  pub stale_idle : (c : MetricsCall) (x : List MetricsCall) (m n : MmpMetrics) → Tied x m → Like d m n → (metrics_step c m).refusal ≡ 0 → exact.stale_call c x ≡ true → Like (d + 1) (metrics_step c m).state n
  unfolding metrics_step
  stale_idle (MetricsCall.process_receiver_report rr ours now) x m n t l e st =
      stale_process m n rr ours now l (sym (process_refusal_lem m rr ours now) ∙ e) (trips.same_test rr t ∙ st)
  stale_idle MetricsCall.reset_for_rekey x m n t l e st = let z : ◌≡◌ {A = ℕ} 0 1 = cc in absurd (omega arith)
  stale_idle (MetricsCall.update_reverse_delivery packets highest) x m n t l e st = let z : ◌≡◌ {A = ℕ} 0 1 = cc in absurd (omega arith)
  stale_idle MetricsCall.reports_seen x m n t l e st = let z : ◌≡◌ {A = ℕ} 0 1 = cc in absurd (omega arith)
  stale_idle MetricsCall.stale_reports x m n t l e st = let z : ◌≡◌ {A = ℕ} 0 1 = cc in absurd (omega arith)
  stale_idle (MetricsCall.ask q) x m n t l e st = let z : ◌≡◌ {A = ℕ} 0 1 = cc in absurd (omega arith)

  -- with as many more of both it is the other again
  pub two_restored : (m n : MmpMetrics) → Like d m n → recounted n (n.reports_seen + d) (n.stale_reports + d) ≡ m
  two_restored m n l = rw l.same (rw (l.low.seen, l.low.stale))

pub like_itself : (m : MmpMetrics) → Like 0 m m
like_itself m = record { s = m.reports_seen; v = m.stale_reports; same = refl; low = record { seen = omega arith; stale = omega arith } }
