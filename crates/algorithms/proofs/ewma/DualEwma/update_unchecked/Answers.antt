-- The weights' bits are their values.
use Rattle.std.proofs.Common.{rules}
use Rattle.std.specs.Float.Ieee.{of_bits}
use Rattle.algorithms.specs.Ewma.{stepped}
use Rattle.algorithms.proofs.ewma.DualEwma.update_unchecked.Goals as goal

pub returns-then-self : goal.returns-then-self
unfolding stepped of_bits
returns-then-self c = search rules
