-- The numbers that the questions of document 01, "Before any figure: the checks", allow. Definitions only.
use Rattle.std.specs.Prelude.{Bool, true, ◌&&◌, ◌||◌, ℕ, ◌+◌, ◌-◌, ◌^◌, leb, ltb, ℤ, pos, neg_ℤ, Float, None, Option, Some}
use Rattle.std.specs.Int.Signed.{le_z}
use Rattle.floats.specs.Operations.{zero_float, one_float, float, in_range}

-- question 2: 2^48 − 1 ms
abbrev pub max_clock : ℕ
max_clock = 2 ^ 48 - 1

-- question 3: 2^32 − 1 bytes
abbrev pub max_frame : ℕ
max_frame = 2 ^ 32 - 1

-- questions 5 and 8: 2^42 µs
abbrev pub max_delay : ℤ
max_delay = pos (2 ^ 42)

-- question 11: an ETX at most 100
abbrev pub max_etx : Float
max_etx = float 25 2

-- question 11: an RTT at most 2^33 ms
abbrev pub max_rtt_ms : Float
max_rtt_ms = float 1 33

-- question 11: a trend sample at most 2^64
abbrev pub max_trend : Float
max_trend = float 1 64

-- question 2: a clock reading, interval or interval bound
abbrev pub clock_ok : ℕ → Bool
clock_ok ms = leb ms max_clock

-- question 2: a clock reading that may be missing
abbrev pub optional_clock_ok : Option ℕ → Bool
optional_clock_ok None = true
optional_clock_ok (Some ms) = clock_ok ms

-- question 3: a frame size
abbrev pub frame_size_ok : ℕ → Bool
frame_size_ok bytes = leb bytes max_frame

-- question 5: a delay sample, within ±2^42 µs
abbrev pub delay_ok : ℤ → Bool
delay_ok us = le_z (neg_ℤ max_delay) us && le_z us max_delay

-- question 8: a round trip for the estimator, 0 to 2^42 µs
abbrev pub round_trip_ok : ℤ → Bool
round_trip_ok us = le_z (pos 0) us && le_z us max_delay

-- question 8: a smoothed value for scheduling, at most 2^42 µs
abbrev pub smoothed_ok : ℤ → Bool
smoothed_ok us = le_z us max_delay

-- question 9: the lower interval bound is at most the upper. "A smoothed value of 0 or less skips 8 and 9"
abbrev pub bounds_ok : ℤ → ℕ → ℕ → Bool
bounds_ok srtt lo hi = le_z srtt (pos 0) || leb lo hi

-- question 10: a counter of so many bits can hold the sum with what it gains
abbrev pub counter_ok : ℕ → ℕ → ℕ → Bool
counter_ok bits count more = ltb (count + more) (2 ^ bits)

-- question 11: a ratio, 0 to 1
abbrev pub ratio_ok : Float → Bool
ratio_ok = in_range zero_float one_float

-- question 11: an ETX, 1 to 100
abbrev pub etx_ok : Float → Bool
etx_ok = in_range one_float max_etx

-- question 11: an RTT in ms, 0 to 2^33
abbrev pub rtt_ms_ok : Float → Bool
rtt_ms_ok = in_range zero_float max_rtt_ms

-- question 11: a trend sample, 0 to 2^64
abbrev pub trend_ok : Float → Bool
trend_ok = in_range zero_float max_trend
