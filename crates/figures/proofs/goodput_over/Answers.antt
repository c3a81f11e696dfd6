use Rattle.std.proofs.Common.{refl}
use Rattle.std.specs.Float.Ieee.{of_bits}
use Rattle.refusals.proofs.PickedByTest.{yes, no}
use Rattle.figures.specs.Goodput.{seconds_of, rate_of, goodput_over}
use Rattle.figures.proofs.goodput_over.Goals as goal

pub returns-then-secs : goal.returns-then-secs
unfolding goodput_over rate_of seconds_of of_bits
returns-then-secs c =
    let secs = c.nearest_u64_to_f64-secs.ensures in
    rw (c.toward_rate.ensures, c.nearest_u64_to_f64.ensures, secs) (yes _ (rw secs at c.if-secs.true) refl)

pub returns-else-secs : goal.returns-else-secs
unfolding goodput_over seconds_of of_bits
returns-else-secs c = no _ (rw c.nearest_u64_to_f64-secs.ensures at c.if-secs.false) refl
