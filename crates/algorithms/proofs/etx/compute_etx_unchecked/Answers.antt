-- The bits of the literals are those of the definition's floats.
use Rattle.std.proofs.Common.{refl}
use Rattle.std.specs.Float.Ieee.{of_bits}
use Rattle.refusals.proofs.PickedByTest.{yes, no}
use Rattle.algorithms.specs.Etx.{etx_of}
use Rattle.algorithms.proofs.etx.compute_etx_unchecked.Goals as goal

pub returns-then-product : goal.returns-then-product
unfolding etx_of of_bits
returns-then-product c = yes _ c.if-product.true refl

pub returns : goal.returns
unfolding etx_of of_bits
returns c = no _ c.if-product.false c.clamp.ensures
