use Rattle.std.proofs.Common.{◌≡◌, refl, rules, w64, to_z, of_z}
use Rattle.std.specs.Float.Ieee.{of_bits}
use Rattle.figures.specs.RoundTrips.{milliseconds_of}
use Rattle.figures.proofs.smoothed_ms_unchecked.Goals as goal

pub returns : goal.returns
unfolding milliseconds_of of_bits
returns c =
    let read : to_z w64 (of_z w64 c.args.srtt.srtt_us) ≡ c.args.srtt.srtt_us = search rules in
    rw (c.nearest_i64_to_f64.ensures, read) refl
