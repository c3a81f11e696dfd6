use Rattle.std.proofs.Common.{refl}
use Rattle.std.specs.Float.Ieee.{of_bits}
use Rattle.refusals.proofs.PickedByTest.{no}
use Rattle.figures.specs.Goodput.{toward_rate}
use Rattle.figures.proofs.toward_rate.Goals as goal

pub returns-else-goodput : goal.returns-else-goodput
unfolding toward_rate of_bits
returns-else-goodput c = no _ c.if-goodput.false refl
