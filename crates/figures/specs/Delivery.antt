-- A delivery ratio: document 01, "Round trip, ratios and trends", and metrics.rs. Definitions only.
use Rattle.std.specs.Prelude.{ℕ, Float}
use Rattle.std.specs.Float.{binary64}
use Rattle.floats.specs.Operations.{zero_float, one_float, clamped, rounded_quotient}

-- packets over the counters' span, each rounded once, then their quotient, brought into 0 to 1
unfoldable pub delivery_ratio : ℕ → ℕ → Float
delivery_ratio packets span = clamped zero_float one_float (rounded_quotient binary64 packets span)
