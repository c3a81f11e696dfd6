-- The quality index of an ETX from 0 to 2^j and an RTT from 0 to 2^33 ms is from 0 to 2^(j + 28); of what question 11 lets through, from 0 to 2^35.
use Rattle.std.proofs.Common.{◌≡◌, ℕ, ◌+◌, ◌≤◌, true, refl, inl, zero-lt-suc, lit≤}
use lib.Ieee.{Float, binary64, emax, le}
use Rattle.floats.specs.Operations.{zero_float, one_float, float}
use Rattle.floats.proofs.Order.{le_transitive}
use Rattle.floats.proofs.PowersAbove.{Below, fraction_below, sum_below, product_below, quotient_below}
use Rattle.floats.proofs.Ranges.{Within, in_range→within}
use Rattle.refusals.specs.Ranges.{etx_ok, rtt_ms_ok, max_etx, max_rtt_ms}
use Rattle.algorithms.specs.Etx.{hundred_float, quality_of}

pub quality_below : (j : ℕ) {etx rtt : Float} → j + 28 ≤ emax binary64 → Below j etx → Below 33 rtt → Below (j + 28) (quality_of etx rtt)
unfolding quality_of
quality_below j e v w =
    product_below binary64 j 28 e v
    (sum_below binary64 27 (lit≤ tt) (fraction_below one_float 1 1 27 (zero-lt-suc 0) (inl refl, refl) (lit≤ tt)) (quotient_below binary64 6 27 100 hundred_float (lit≤ tt) (lit≤ tt) (refl, refl) w))

pub quality_in_range : (etx rtt : Float) → etx_ok etx ≡ true → rtt_ms_ok rtt ≡ true → Below 35 (quality_of etx rtt)
unfolding le
quality_in_range etx rtt h k =
    let v : Within one_float max_etx etx = in_range→within one_float max_etx etx h in
    quality_below 7 (lit≤ tt)
    (record { low = le_transitive zero_float one_float etx tt v.low; high = le_transitive etx max_etx (float 1 7) v.high tt })
    (in_range→within zero_float max_rtt_ms rtt k)
