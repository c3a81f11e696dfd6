-- The calls on a sender's record that the daemon lends are rows of the same table: the record and the status at exit are the step's of the record at entry.
-- The contract's own clause says the row, in every model of the logic. What C calls are exports of siwolkert_c, which have these clauses word for word.
use mathlib.Core.Path.{◌≡◌, refl, sym, ap, ◌∙◌}
use mathlib.Core.Logic.{◌≢◌}
use mathlib.Core.Bool.{Bool, true, false}
use mathlib.Core.List.{[], ◌∷◌}
use Prim.Native.Nat.{ℕ}
use lib.Dec.{eqb}
use base.Logic.{ent}
use borrow.Author.Tests.{eq-eqb, ne_eqb}
use borrow.Fn.World.{World, Pr}
use contract.Monad.{fact, fact_mono}
use Rattle.refusals.specs.Answers.{answer}
use Rattle.refusals.specs.Questions.{question, first_no}
use Rattle.wire.specs.declared.sender_report.SenderReport.{SenderReport}
use Rattle.sender.specs.State.{keeps_the_rule, refusal_of}
use Rattle.sender.specs.declared.SenderState.{SenderState}
use Rattle.siwolkert.proofs.RefusedStays.{some_stays, some_told, report_left, report_told}
use Rattle.siwolkert.specs.contracts.lent.siwolkert_sender_check as siwolkert-sender-check
use Rattle.siwolkert.specs.contracts.lent.siwolkert_sender_record_sent as siwolkert-sender-record-sent
use Rattle.siwolkert.specs.contracts.lent.siwolkert_sender_build_report as siwolkert-sender-build-report
use Rattle.history.specs.Run.{Step}
use Rattle.history.specs.Answers.{Fact, Answer}
use Rattle.history.specs.SenderCalls.{SenderQuestion, sender_told, SenderCall, updating, sender_step}

-- what a clause says
abbrev Says : ((w : World) → Pr w) → Type 0 → Type 2
Says clause φ = (w : World) → ent w.𝓤 (clause w) (fact w.𝓤 φ)

-- ---- a record is checked
pub record Checked (status : ℕ) (s : SenderState) : Type 0 where
  -- 0 exactly where `keeps_rule` is true
  pub rule : Answer.told (Fact.yes_or_no (eqb status 0)) ≡ (sender_step (SenderCall.ask SenderQuestion.keeps_rule) s).answer
  -- what an accessor refuses the record by
  pub refusal : status ≡ (sender_step (SenderCall.ask SenderQuestion.cumulative_packets_sent) s).refusal

none_refused : (b : Bool) → eqb (first_no (question 1 b ∷ [])) 0 ≡ b
unfolding first_no
none_refused true = refl
none_refused false = refl

checked : (status : ℕ) (s : SenderState) → status ≡ refusal_of s → Checked status s
unfolding sender_step sender_told refusal_of answer
checked status s e = record { rule = ap (λ b. Answer.told (Fact.yes_or_no b)) (ap (λ n. eqb n 0) e ∙ none_refused (keeps_the_rule s)); refusal = e }

pub siwolkert_sender_check_row : (κs : _) (a : _) (r : _) (s : _) →
    Says (λ w. (siwolkert-sender-check.clauses w.𝓛 w.𝓜.mem w.𝓡.run κs a).ensures tt r s)
    (Checked r a.0.now)
siwolkert_sender_check_row κs a r s w = fact_mono w.𝓤 _ _ (checked r a.0.now)

-- ---- a frame is sent
pub siwolkert_sender_record_sent_row : (κs : _) (a : _) (r : _) (s : _) →
    Says (λ w. (siwolkert-sender-record-sent.clauses w.𝓛 w.𝓜.mem w.𝓡.run κs a).ensures tt r s)
    (updating (record { refusal = r; state = s.0.now }) ≡ sender_step (SenderCall.record_sent a.1.0 a.1.1.0 a.1.1.1.0) a.0.now)
unfolding sender_step
siwolkert_sender_record_sent_row κs a r s w = fact_mono w.𝓤 _ _ (λ e. λ i. updating (record { refusal = e.0 i; state = e.1 i }))

-- ---- a report is built
-- the step, and what the call left: the record, whether there is a report, and the report, the last two beside what they were
pub record Built (step : Step Answer SenderState) (status : ℕ) (state : SenderState) (some-was some : Bool) (report-was report : SenderReport) : Type 0 where
  pub refusal : status ≡ step.refusal
  pub record_left : state ≡ step.state
  pub answered : status ≡ 0 → Answer.sender_report some report ≡ step.answer
  pub refused : status ≢ 0 → (some ≡ some-was) × (report ≡ report-was)

pub siwolkert_sender_build_report_row : (κs : _) (a : _) (r : _) (s : _) →
    Says (λ w. (siwolkert-sender-build-report.clauses w.𝓛 w.𝓜.mem w.𝓡.run κs a).ensures tt r s)
    (Built (sender_step (SenderCall.build_report a.1.0) a.0.now) r s.0.now a.1.1.0.now s.1.1.0.now a.1.1.1.0.now s.1.1.1.0.now)
unfolding sender_step
siwolkert_sender_build_report_row κs a r s w =
    fact_mono w.𝓤 _ _
    (λ e.
    record {
      refusal = e.0;
      record_left = e.1;
      answered = λ z. λ i. Answer.sender_report ((e.2 ∙ sym (some_told _ _ _ (eq-eqb _ 0 (sym e.0 ∙ z)))) i) ((e.3 ∙ sym (report_told _ _ _ (eq-eqb _ 0 (sym e.0 ∙ z)))) i);
      refused = λ n. (e.2 ∙ sym (some_stays _ _ _ (ne_eqb _ 0 (λ z. n (e.0 ∙ z)))), e.3 ∙ sym (report_left _ _ _ (ne_eqb _ 0 (λ z. n (e.0 ∙ z)))));
    })
