-- A timestamp is below one span.
use Rattle.std.proofs.Common.{sym, ap, ◌∙◌, arith, rules, w32, SFits, to_z}
use mir.ValLaws.{to_z-of_z}
use Rattle.samples.specs.Words.{modulo, reduced}
use Rattle.samples.specs.Delay.{sent_ms}
use Rattle.samples.proofs.Differences.{minus}
use Rattle.samples.proofs.Reduction.{modulo_difference}
use Rattle.samples.proofs.delay.sent_ms.Goals as goal

pub returns : goal.returns
unfolding sent_ms reduced
returns c =
    let a = c.args in
    let fits : SFits w32 c.cast_signed.result = search rules in
    to_z-of_z w32 c.cast_signed.result fits
    ∙ c.cast_signed.ensures
    ∙ ap (to_z w32) (sym (ap modulo (minus a.timestamp a.from) ∙ modulo_difference a.timestamp a.from 1 (omega arith)))
