-- An interval's bursts as a report says them: document 01, "Jitter, delay trend and bursts". Definitions only.
use Rattle.std.specs.Prelude.{cond, ℕ, ◌*◌, ◌/◌, min, eqb}
use Rattle.std.specs.Float.{Format}
use Rattle.std.specs.Float.Ieee.{mul, to_unsigned}
use Rattle.floats.specs.Operations.{float, rounded_quotient}
use Rattle.gaps.specs.Gaps.{max_length, burst_finished}
use Rattle.gaps.specs.declared.GapTracker.{GapTracker}
use Rattle.gaps.specs.declared.IntervalStats.{IntervalStats}

-- "Mean burst is the smaller of 65,535 and 256 × total / count rounded down (0 for none)"
unfoldable pub mean_burst : ℕ → ℕ → ℕ
mean_burst total count = cond (eqb count 0) 0 (min (256 * total / count) max_length)

-- "the Rust's float route": `((total as f64 / count as f64) * 256.0) as u16`
unfoldable pub float_route : Format → ℕ → ℕ → ℕ
float_route f total count = to_unsigned 16 (mul f (rounded_quotient f total count) (float 1 8))

-- nothing counted in the interval that begins
abbrev pub cleared : GapTracker → GapTracker
cleared t =
    record {
      expected_next = t.expected_next;
      in_burst = t.in_burst;
      current_burst_len = t.current_burst_len;
      burst_count = 0;
      max_burst_len = 0;
      total_burst_len = 0;
    }

-- the figures of the bursts of a tracker outside a burst
abbrev pub figures : GapTracker → IntervalStats
figures t = record { count = t.burst_count; max = t.max_burst_len; mean = mean_burst t.total_burst_len t.burst_count; tracker = cleared t }

-- "A report closes an open burst", then says the interval's bursts
unfoldable pub stats_of : GapTracker → IntervalStats
stats_of t = figures (burst_finished t)
