-- The smoothed round trip of an estimator within its rule, in ms, is from 0 to 2^33, as question 11 asks of an RTT.
use mathlib.Core.Path.{◌≡◌, refl, sym}
use mathlib.Core.Bool.{true, true≢false}
use Prim.Native.Nat.{◌^◌}
use lib.Dec.{lit≤}
use lib.IntN.{ℤ, pos, negsuc}
use lib.Ieee.{binary64}
use lib.Signed.{le_z}
use borrow.Author.Tests.{leb-true}
use Rattle.floats.specs.Operations.{zero_float, thousand_float}
use Rattle.floats.proofs.IntegersInRange.{integer_within}
use Rattle.floats.proofs.PowersAbove.{Below, quotient_below}
use Rattle.floats.proofs.Ranges.{within→in_range}
use Rattle.refusals.proofs.Clauses.{right}
use Rattle.refusals.specs.Ranges.{max_delay, max_rtt_ms, round_trip_ok, rtt_ms_ok}
use Rattle.algorithms.specs.Srtt.{keeps_the_rule}
use Rattle.algorithms.specs.declared.srtt.SrttEstimator.{SrttEstimator}
use Rattle.algorithms.proofs.SrttKeepsRule.{kept}
use Rattle.figures.specs.RoundTrips.{milliseconds_of}

-- 2^42 µs are 2^33 times 512, and a millisecond has 1000 of them
milliseconds_below : (us : ℤ) → round_trip_ok us ≡ true → Below 33 (milliseconds_of us)
unfolding milliseconds_of
milliseconds_below (pos n) h =
    quotient_below binary64 9 33 1000 thousand_float (lit≤ tt) (lit≤ tt) (refl, refl)
    (integer_within binary64 n 42 (lit≤ tt) (leb-true n (2 ^ 42) (right (le_z (pos 0) (pos n)) (le_z (pos n) max_delay) h)))
milliseconds_below (negsuc n) h = absurd (true≢false (sym h))

pub smoothed_below : (s : SrttEstimator) → keeps_the_rule s ≡ true → Below 33 (milliseconds_of s.srtt_us)
smoothed_below s h = milliseconds_below s.srtt_us (kept s h).smoothed

pub smoothed_in_range : (s : SrttEstimator) → keeps_the_rule s ≡ true → rtt_ms_ok (milliseconds_of s.srtt_us) ≡ true
smoothed_in_range s h = within→in_range zero_float max_rtt_ms (milliseconds_of s.srtt_us) (smoothed_below s h)
