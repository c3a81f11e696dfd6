-- A delivery ratio is an f64 from 0 to 1, and so is the loss beside it; the ETX of two ratios is an f64 from 1 to 100.
use Prim.Native.Nat.{ℕ, ◌^◌, ◌<◌}
use mathlib.Core.Bool.{cond}
use lib.IntN.{pos}
use lib.Dec.{T}
use lib.Ieee.{Float, binary64, mul, div, lt, le, of_int, fits}
use lib.Ieee.Fits.{sub-fits, div-fits, cond-fits}
use Rattle.floats.specs.Operations.{zero_float, one_float, clamped, complement, rounded_quotient}
use Rattle.floats.proofs.Clamping.{clamp_within}
use Rattle.floats.proofs.Quotients.{word_small, quotient_number}
use Rattle.floats.proofs.Ranges.{Within}
use Rattle.refusals.specs.Ranges.{max_etx}
use Rattle.algorithms.specs.Etx.{etx_of}
use Rattle.figures.specs.Delivery.{delivery_ratio}

clamp_fits : (lo hi x : Float) → T (fits binary64 lo) → T (fits binary64 hi) → T (fits binary64 x) → T (fits binary64 (clamped lo hi x))
unfolding clamped
clamp_fits lo hi x l h f = cond-fits binary64 (lt x lo) lo (cond (lt hi x) hi x) l (cond-fits binary64 (lt hi x) hi x h f)

-- ---- delivery
pub delivery_within : (packets span : ℕ) → packets < 2 ^ 64 → 0 < span → span < 2 ^ 64 → Within zero_float one_float (delivery_ratio packets span)
unfolding delivery_ratio
delivery_within packets span p s w =
    clamp_within zero_float one_float (unfold le in tt) (rounded_quotient binary64 packets span) (quotient_number binary64 span s (word_small span w) packets (word_small packets p))

pub delivery_fits : (packets span : ℕ) → T (fits binary64 (delivery_ratio packets span))
unfolding delivery_ratio rounded_quotient fits
delivery_fits packets span = clamp_fits zero_float one_float _ tt tt (div-fits binary64 (of_int binary64 (pos packets)) (of_int binary64 (pos span)))

pub loss_fits : (x : Float) → T (fits binary64 (complement binary64 x))
unfolding complement
loss_fits x = sub-fits binary64 one_float x

-- ---- ETX
pub etx_fits : (x y : Float) → T (fits binary64 (etx_of x y))
unfolding etx_of fits
etx_fits x y =
    cond-fits binary64 (le (mul binary64 x y) zero_float) max_etx (clamped one_float max_etx (div binary64 one_float (mul binary64 x y)))
    tt
    (clamp_fits one_float max_etx (div binary64 one_float (mul binary64 x y)) tt tt (div-fits binary64 one_float (mul binary64 x y)))
