-- The bits of the literals are those of the definition's ends.
use Rattle.std.specs.Float.Ieee.{of_bits}
use Rattle.refusals.proofs.ranges.etx_ok.Goals as goal

pub returns : goal.returns
unfolding of_bits
returns c = c.in_range.ensures
