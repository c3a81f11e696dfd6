-- A call on a lent record: on a refusal the record is the one that was lent, and an out-parameter what the caller had there; else it is the result.
use mathlib.Core.Path.{◌≡◌, refl, sym, ap, ◌∙◌}
use mathlib.Core.Bool.{Bool, true, false}
use Prim.Native.Nat.{ℕ}
use lib.Dec.{eqb}
use Rattle.refusals.proofs.PickedByTest.{yes, no}
use Rattle.sender.specs.Sent.{sent_of}
use Rattle.sender.specs.Reports.{built, built_of}
use Rattle.sender.specs.declared.SenderState.{SenderState}
use Rattle.sender.specs.Reports.{SenderReportBuilt}
use Rattle.sender.proofs.RuleKept.{report_refusal_lem}
use Rattle.wire.specs.declared.sender_report.SenderReport.{SenderReport}
use Rattle.siwolkert.specs.Lent.{some_into, report_into}

pub sent_stays : (s : SenderState) (counter timestamp bytes : ℕ) → eqb (sent_of s counter timestamp bytes).refusal 0 ≡ false → s ≡ (sent_of s counter timestamp bytes).state
unfolding sent_of
sent_stays s counter timestamp bytes refused = no _ refused refl

pub report_stays : (s : SenderState) (now : ℕ) → eqb (built_of s now).refusal 0 ≡ false → s ≡ (built_of s now).state
unfolding built_of
report_stays s now refused =
    ap (λ (r : SenderReportBuilt). r.state) (no (built s now) (ap (λ (n : ℕ). eqb n 0) (sym (report_refusal_lem s now)) ∙ refused) refl)

-- ---- the out-parameters of a report
pub some_stays : (s : SenderState) (now : ℕ) (was : Bool) → eqb (built_of s now).refusal 0 ≡ false → was ≡ some_into s now was
unfolding some_into
some_stays s now was refused = no _ refused refl

pub some_told : (s : SenderState) (now : ℕ) (was : Bool) → eqb (built_of s now).refusal 0 ≡ true → (built_of s now).some ≡ some_into s now was
unfolding some_into
some_told s now was answered = yes _ answered refl

pub report_left : (s : SenderState) (now : ℕ) (was : SenderReport) → eqb (built_of s now).refusal 0 ≡ false → was ≡ report_into s now was
unfolding report_into
report_left s now was refused = no _ refused refl

pub report_told : (s : SenderState) (now : ℕ) (was : SenderReport) → eqb (built_of s now).refusal 0 ≡ true → (built_of s now).report ≡ report_into s now was
unfolding report_into
report_told s now was answered = yes _ answered refl
