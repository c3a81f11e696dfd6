-- A call on a sender's record that keeps its rule is refused as its own arguments and the record's counters say, and not by 1.
use mathlib.Core.Path.{◌≡◌, refl}
use mathlib.Core.Bool.{true, ◌&&◌}
use mathlib.Core.List.{[], ◌∷◌}
use Rattle.refusals.specs.Answers.{answer}
use Rattle.refusals.specs.Questions.{question, first_no}
use Rattle.refusals.specs.Ranges.{counter_ok}
use Rattle.sender.specs.State.{keeps_the_rule, refusal_of}
use Rattle.sender.specs.Sent.{counters_ok, sent_refusal, sent_of}
use Rattle.sender.specs.Backoff.{failure_refusal, failure_of, success_of}
use Rattle.pace.specs.Updates as pace
use Rattle.pace.specs.Updates.{from_srtt_refusal, from_srtt, with_bounds_refusal, with_bounds}
use Rattle.sender.specs.Reports.{report_refusal}
use Rattle.sender.specs.Pacing.{from_srtt_of, with_bounds_of, should_send_of}
use Rattle.sender.specs.declared.SenderState.{SenderState}
use Rattle.sender.proofs.RuleKept.{report_refusal_lem}
use Rattle.history.specs.SenderCalls.{SenderQuestion, sender_told, SenderCall, sender_step}
use Rattle.history.specs.Asked as paper
use Rattle.history.proofs.Asked.{Lawful, behind_rule, never_refused}

module _ (s : SenderState) (rule : keeps_the_rule s ≡ true) where
  asks_rule : Lawful paper.rule_alone (refusal_of s)
  unfolding refusal_of first_no
  asks_rule = rw rule never_refused

  told_lawful : (q : SenderQuestion) → Lawful (paper.sender_told q) (sender_told q s).refusal
  unfolding first_no sender_told should_send_of report_refusal answer
  told_lawful (SenderQuestion.should_send_report now) = rw rule (behind_rule (paper.ask 2 (paper.clock now) ∷ []) [] refl)
  told_lawful SenderQuestion.send_failure_backoff_multiplier = asks_rule
  told_lawful SenderQuestion.keeps_rule = never_refused
  told_lawful SenderQuestion.cumulative_packets_sent = asks_rule
  told_lawful SenderQuestion.cumulative_bytes_sent = asks_rule
  told_lawful SenderQuestion.report_interval_ms = asks_rule
  told_lawful SenderQuestion.consecutive_send_failures = asks_rule

  pub sender_lawful : (c : SenderCall) → Lawful (paper.to_sender c) (sender_step c s).refusal
  unfolding first_no sender_step sent_of sent_refusal report_refusal failure_of failure_refusal success_of from_srtt_of from_srtt from_srtt_refusal with_bounds_of with_bounds with_bounds_refusal pace.updated
  sender_lawful (SenderCall.record_sent counter timestamp bytes) = rw rule (behind_rule (paper.ask 3 (paper.frame_size bytes) ∷ []) (question 10 (counters_ok s bytes) ∷ []) refl)
  sender_lawful (SenderCall.build_report now) = rw (report_refusal_lem s now, rule) (behind_rule (paper.ask 2 (paper.clock now) ∷ []) [] refl)
  sender_lawful SenderCall.record_send_failure = rw rule (behind_rule [] (question 10 (counter_ok 32 s.consecutive_send_failures 1) ∷ []) refl)
  sender_lawful SenderCall.record_send_success = asks_rule
  sender_lawful (SenderCall.update_report_interval_from_srtt srtt) = rw rule (behind_rule (paper.ask 8 (paper.smoothed srtt) ∷ []) [] refl)
  sender_lawful (SenderCall.update_report_interval_with_bounds srtt lo hi) =
      rw rule (behind_rule (paper.ask 2 (paper.clock lo && paper.clock hi) ∷ paper.ask 8 (paper.smoothed srtt) ∷ paper.ask 9 (paper.bounds srtt lo hi) ∷ []) [] refl)
  sender_lawful (SenderCall.ask q) = told_lawful q
