-- What the link's figures do with floats, over the values and operations of IEEE 754 in `lib.Ieee`. Definitions only.
use Rattle.std.specs.Prelude.{ℕ, Bool, false, cond, ◌&&◌, pos, negsuc, Float}
use Rattle.std.specs.Float.{fin, Format}
use Rattle.std.specs.Float.Ieee.{add, sub, mul, div, lt, le, of_int}

-- 0.0 and 1.0, where the range of a ratio ends: document 01, question 11.
abbrev pub zero_float : Float
zero_float = fin false 0 (pos 0)

abbrev pub one_float : Float
one_float = fin false 1 (pos 0)

-- m times 2^e, exactly.
abbrev pub float : ℕ → ℕ → Float
float m e = fin false m (pos e)

-- 1000.0, by which µs become ms and ms seconds.
abbrev pub thousand_float : Float
thousand_float = fin false 125 (pos 3)

-- 2 ^ -(k + 1), exactly.
abbrev pub weight : ℕ → Float
weight k = fin false 1 (negsuc k)

-- The part by which goodput moves: metrics.rs.
abbrev pub one_quarter : Float
one_quarter = weight 1

-- x is from lo to hi, and no NaN: document 01, question 11.
abbrev pub in_range : Float → Float → Float → Bool
in_range lo hi x = le lo x && le x hi

-- x, or the end of lo to hi that it lies beyond: document 01, "Rust forms", `clamp`.
unfoldable pub clamped : Float → Float → Float → Float
clamped lo hi x = cond (lt x lo) lo (cond (lt hi x) hi x)

-- the lesser of x and y where both are numbers, and y where one is a NaN
unfoldable pub lesser : Float → Float → Float
lesser x y = cond (lt x y) x y

-- s moved toward x by the part a of their difference, each operation rounded once: document 01, "Round trip, ratios and trends".
unfoldable pub step : Format → Float → Float → Float → Float
step f a s x = add f s (mul f a (sub f x s))

-- What a ratio x leaves of the whole, rounded once: IEEE 754, 5.4.1, subtraction.
unfoldable pub complement : Format → Float → Float
complement f x = sub f one_float x

-- a / b, each integer rounded once to nearest and then their quotient: document 01, "Round trip, ratios and trends".
unfoldable pub rounded_quotient : Format → ℕ → ℕ → Float
rounded_quotient f a b = div f (of_int f (pos a)) (of_int f (pos b))
