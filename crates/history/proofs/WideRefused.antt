-- A receiver whose window is wider than the greatest breaks its rule, and every call on it is refused by 1.
use mathlib.Core.Path.{◌≡◌, refl, sym, ◌∙◌}
use mathlib.Core.Logic.{◌≢◌}
use mathlib.Core.Bool.{Bool, true, false}
use Prim.Native.Nat.{ℕ, ◌<◌}
use native.Mathlib.Omega.{arith}
use Rattle.refusals.specs.Answers.{answer}
use Rattle.refusals.specs.Questions.{first_no}
use Rattle.algorithms.proofs.OwdRuleKept.{rule}
use Rattle.pace.specs.Updates.{updated, from_srtt_refusal, from_srtt, with_bounds_refusal, with_bounds}
use Rattle.receiver.specs.State.{keeps_the_rule, refusal_of, clock_refusal, rekey_of}
use Rattle.receiver.specs.Frames.{frame_refusal, frame_of}
use Rattle.receiver.specs.Reports.{report_refusal}
use Rattle.receiver.specs.Pacing.{from_srtt_of, with_bounds_of, should_send_of}
use Rattle.receiver.specs.declared.ReceiverState.{ReceiverState}
use Rattle.receiver.proofs.QuestionsAnswered.{kept}
use Rattle.receiver.proofs.RuleKept.{report_refusal_lem}
use Rattle.history.specs.Paper.{greatest_window}
use Rattle.history.specs.Answers.{Fact, Answer}
use Rattle.history.specs.ReceiverCalls.{ReceiverQuestion, receiver_told, ReceiverCall, receiver_step}
use Rattle.history.specs.WideWindow as wide
use Rattle.history.proofs.RefusedStays.{receiver_stays}

module _ (s : ReceiverState) (h : greatest_window < s.owd_trend.capacity) where
  lawless : keeps_the_rule s ≡ false
  lawless = go (keeps_the_rule s) refl
    where
      go : (b : Bool) → keeps_the_rule s ≡ b → b ≡ false
      go true k = let r = rule s.owd_trend (kept s k).window in absurd (omega (arith, r.most, h))
      go false k = refl

  told_by_rule : (q : ReceiverQuestion) → ReceiverCall.ask q ≢ wide.keeps_the_rule → (receiver_told q s).refusal ≡ 1
  unfolding receiver_told should_send_of clock_refusal refusal_of first_no answer
  told_by_rule (ReceiverQuestion.should_send_report now) n = rw lawless refl
  told_by_rule ReceiverQuestion.keeps_rule n = absurd (n refl)
  told_by_rule ReceiverQuestion.cumulative_packets_recv n = rw lawless refl
  told_by_rule ReceiverQuestion.cumulative_bytes_recv n = rw lawless refl
  told_by_rule ReceiverQuestion.highest_counter n = rw lawless refl
  told_by_rule ReceiverQuestion.jitter_us n = rw lawless refl
  told_by_rule ReceiverQuestion.report_interval_ms n = rw lawless refl
  told_by_rule ReceiverQuestion.last_recv_ms n = rw lawless refl
  told_by_rule ReceiverQuestion.ecn_ce_count n = rw lawless refl
  told_by_rule ReceiverQuestion.interval_max_lateness n = rw lawless refl

  by_rule : (c : ReceiverCall) → c ≢ wide.keeps_the_rule → (receiver_step c s).refusal ≡ 1
  unfolding receiver_step frame_of frame_refusal rekey_of clock_refusal report_refusal from_srtt_of from_srtt from_srtt_refusal with_bounds_of with_bounds with_bounds_refusal updated first_no
  by_rule (ReceiverCall.record_frame f sampled) n = rw lawless refl
  by_rule (ReceiverCall.record_recv f) n = rw lawless refl
  by_rule (ReceiverCall.reset_for_rekey now) n = rw lawless refl
  by_rule (ReceiverCall.build_report times delays now) n = report_refusal_lem s times delays now ∙ rw lawless refl
  by_rule (ReceiverCall.update_report_interval_from_srtt srtt) n = rw lawless refl
  by_rule (ReceiverCall.update_report_interval_with_bounds srtt lo hi) n = rw lawless refl
  by_rule (ReceiverCall.ask q) n = told_by_rule q n

  says_no : (receiver_step wide.keeps_the_rule s).answer ≡ Answer.told (Fact.yes_or_no false)
  unfolding receiver_step receiver_told
  says_no = rw lawless refl

  refused : (c : ReceiverCall) → c ≢ wide.keeps_the_rule → wide.Refused c s
  refused c n =
      let one = by_rule c n in
      record { by_rule = one; stays = receiver_stays c s (λ e. let z : ◌≡◌ {A = ℕ} 1 0 = sym one ∙ e in omega arith) }

pub wide_holds : wide.WideHolds
wide_holds s h = record { lawless = says_no s h; refused = refused s h }
