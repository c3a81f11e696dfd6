-- Whole numbers in 32 bits: document 01, "Jitter, delay trend and bursts". Definitions only.
use Rattle.std.specs.Prelude.{ℕ, ◌-◌, ◌%◌, ◌^◌, ℤ, pos, negsuc}
use Rattle.std.specs.Int.{w32}
use Rattle.std.proofs.Common.{to_z}

-- "modulo 2^32": 0 to 2^32 − 1, by whole spans of 2^32 from z
unfoldable pub modulo : ℤ → ℕ
modulo (pos n) = n % 2 ^ 32
modulo (negsuc n) = 2 ^ 32 - 1 - n % 2 ^ 32

-- "reduced to signed 32 bits", "modulo 2^32, read as signed 32 bits": −2^31 to 2^31 − 1, by whole spans of 2^32 from z
unfoldable pub reduced : ℤ → ℤ
reduced z = to_z w32 (modulo z)
