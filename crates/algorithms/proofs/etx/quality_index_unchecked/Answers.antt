-- The bits of 1.0 and 100.0 are their values.
use Rattle.std.proofs.Common.{refl}
use Rattle.std.specs.Float.Ieee.{of_bits}
use Rattle.algorithms.specs.Etx.{quality_of}
use Rattle.algorithms.proofs.etx.quality_index_unchecked.Goals as goal

pub returns : goal.returns
unfolding quality_of of_bits
returns c = refl
