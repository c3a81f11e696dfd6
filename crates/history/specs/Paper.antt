-- The numbers that the statement takes from the rules (docs/RULES.md), written here anew: no constant that the code is held against stands behind them. Definitions only.
use Rattle.std.specs.Prelude.{ℕ, ◌-◌, ◌^◌}

-- ---- "Before any figure: the checks"
-- 2. "at most 2^48 − 1 ms"
abbrev pub greatest_clock : ℕ
greatest_clock = 2 ^ 48 - 1

-- 3. "at most 2^32 − 1 bytes"
abbrev pub greatest_frame : ℕ
greatest_frame = 2 ^ 32 - 1

-- 5 and 8. "2^42 µs"
abbrev pub greatest_delay : ℕ
greatest_delay = 2 ^ 42

-- ---- document 02, W-203, "expected": a counter has 64 bits
abbrev pub greatest_counter : ℕ
greatest_counter = 2 ^ 64 - 1

-- ---- "Capacity is clamped to 2 to 256", document 02, W-202; 32 by default
abbrev pub least_window : ℕ
least_window = 2

abbrev pub greatest_window : ℕ
greatest_window = 256

abbrev pub default_window : ℕ
default_window = 32

-- ---- "rekey time + 15,000"
abbrev pub grace : ℕ
grace = 15000

-- ---- demand 3: "ETX in 1 to 100"
abbrev pub greatest_etx : ℕ
greatest_etx = 100

-- in µs: "less than 7 µs above it", "less than 10 µs off", "less than 1 µs from"
abbrev pub smoothed_bound : ℕ
smoothed_bound = 7

abbrev pub variation_bound : ℕ
variation_bound = 10

abbrev pub jitter_bound : ℕ
jitter_bound = 1
