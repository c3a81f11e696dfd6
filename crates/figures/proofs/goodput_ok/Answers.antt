use Rattle.std.specs.Float.Ieee.{of_bits}
use Rattle.figures.proofs.goodput_ok.Goals as goal

pub returns : goal.returns
unfolding of_bits
returns c = c.in_range.ensures
