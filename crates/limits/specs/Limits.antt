-- The tuning constants of limits.rs that definitions cite, by the Rust's names. Definitions only.
use Rattle.std.specs.Prelude.{false, ℕ, negsuc, Float}
use Rattle.std.specs.Float.{fin}

-- ---- the parts by which a trend moves: 2^-2 and 2^-5
abbrev pub ewma_short_alpha : Float
ewma_short_alpha = fin false 1 (negsuc 1)

abbrev pub ewma_long_alpha : Float
ewma_long_alpha = fin false 1 (negsuc 4)

-- ---- intervals between reports, in ms
abbrev pub default_cold_start_interval : ℕ
default_cold_start_interval = 200

abbrev pub min_report_interval : ℕ
min_report_interval = 1000

abbrev pub max_report_interval : ℕ
max_report_interval = 5000

-- the updates before the floor rises
abbrev pub cold_start_samples : ℕ
cold_start_samples = 5

-- ---- the capacity of a delay window
abbrev pub default_owd_window_size : ℕ
default_owd_window_size = 32

abbrev pub min_owd_window_size : ℕ
min_owd_window_size = 2

abbrev pub max_owd_window_size : ℕ
max_owd_window_size = 256
