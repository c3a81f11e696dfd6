-- A report built from a lent record (document 01, "Reports due"): its results by out-parameters, which a refusal leaves as they were. Definitions only.
use Rattle.std.specs.Prelude.{ℕ, Bool, cond, eqb}
use Rattle.sender.specs.Reports.{built_of}
use Rattle.sender.specs.declared.SenderState.{SenderState}
use Rattle.wire.specs.declared.sender_report.SenderReport.{SenderReport}

-- whether there is a report, or what the caller had there
unfoldable pub some_into : SenderState → ℕ → Bool → Bool
some_into s now was = cond (eqb (built_of s now).refusal 0) (built_of s now).some was

-- the report, or what the caller had there
unfoldable pub report_into : SenderState → ℕ → SenderReport → SenderReport
report_into s now was = cond (eqb (built_of s now).refusal 0) (built_of s now).report was
