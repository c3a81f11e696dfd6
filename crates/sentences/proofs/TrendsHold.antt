-- "MOVED BY EXACTLY ONE QUARTER AND ONE THIRTY-SECOND", at whole numbers, worked out.
use Prim.Native.Nat.{ℕ}
use mathlib.Core.Path.{◌≡◌, refl}
use mathlib.Core.Bool.{Bool, true, false, ◌&&◌}
use lib.IntN.{pos}
use lib.Ieee as ieee
use lib.Ieee.{Float, fin, eq}
use Rattle.floats.specs.Operations as floats
use Rattle.algorithms.specs.Ewma.{stepped}

-- a whole number
abbrev whole : ℕ → Float
whole n = fin false n (pos 0)

-- short and long after a sample, both having been `from`
abbrev moves : ℕ → ℕ → ℕ → ℕ → Bool
moves from sample short long =
    let t = stepped (record { short = whole from; long = whole from; initialized = true }) (whole sample) in
    eq t.short (whole short) && eq t.long (whole long)

-- up by 32, down by 32, up from elsewhere, and not at all
pub moved_so : (moves 0 32 8 1 && moves 32 0 24 31 && moves 100 1060 340 130 && moves 7 7 7 7) ≡ true
unfolding stepped floats.step ieee.add ieee.sub ieee.mul ieee.eq
moved_so = refl
