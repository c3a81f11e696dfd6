-- Smoothed goodput in bytes per second: document 01, "State rule", and metrics.rs. Each operation is rounded once. Definitions only.
use Rattle.std.specs.Prelude.{Bool, cond, ℕ, ◌-◌, pos, Float, None, Option, Some}
use Rattle.std.specs.Float.{Format, binary64}
use Rattle.std.specs.Float.Ieee.{add, sub, mul, div, lt, eq, of_int}
use Rattle.floats.specs.Operations.{zero_float, float, one_quarter, in_range, thousand_float}

-- document 01, "State rule": goodput is at most 2^74
abbrev pub max_goodput : Float
max_goodput = float 1 74

-- document 01, "State rule": "goodput 0 to 2^74"
abbrev pub goodput_ok : Float → Bool
goodput_ok = in_range zero_float max_goodput

-- so many ms as seconds
unfoldable pub seconds_of : Format → ℕ → Float
seconds_of f ms = div f (of_int f (pos ms)) thousand_float

-- bytes per second
unfoldable pub rate_of : Format → ℕ → ℕ → Float
rate_of f bytes ms = div f (of_int f (pos bytes)) (seconds_of f ms)

-- the first rate is the goodput, as after 0.0 or −0.0; a later one moves it by one quarter of the difference
unfoldable pub toward_rate : Float → Float → Float
toward_rate goodput bps = cond (eq goodput zero_float) bps (add binary64 goodput (mul binary64 (sub binary64 bps goodput) one_quarter))

-- so many bytes in so many ms; no time leaves the goodput
unfoldable pub goodput_over : Float → ℕ → ℕ → Float
goodput_over goodput bytes ms = cond (lt zero_float (seconds_of binary64 ms)) (toward_rate goodput (rate_of binary64 bytes ms)) goodput

-- since the report before, 0 ms having passed if the clock fell; without its time the goodput stays
unfoldable pub goodput_after : Float → ℕ → Option ℕ → ℕ → Float
goodput_after goodput bytes None now = goodput
goodput_after goodput bytes (Some before) now = goodput_over goodput bytes (now - before)
