-- The joined test of the floats shows each of their ranges.
use Rattle.std.proofs.Common.{rules}
use Rattle.std.specs.Float.Ieee.{of_bits}
use Rattle.metrics.proofs.WellWithin.{Fits, floats_near}
use Rattle.metrics.proofs.MmpMetrics.floats_near.Goals as goal

pub returns : goal.returns
unfolding of_bits
returns c h =
    let m = c.args.self in
    let fit : Fits m = record {
      rtt = record { short = search rules; long = search rules };
      loss = record { short = search rules; long = search rules };
      goodput = record { short = search rules; long = search rules };
      jitter = record { short = search rules; long = search rules };
      etx = record { short = search rules; long = search rules };
      rate = search rules;
    } in
    floats_near m fit c.if-self.true
    (rw (c.least_of-lowest.ensures, c.least_of-least_long.ensures, c.least_of-least_short.ensures) at c.if-lowest.true)
    (rw (c.sum_of-long.ensures, c.sum_of-short.ensures) at c.if-total.true)
    c.if-self-2.true
    c.if-self-3.true
    h
