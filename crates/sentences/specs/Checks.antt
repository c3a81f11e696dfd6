-- Document 01, "Before any figure: the checks": the numbers that its questions let pass. Definitions only.
use Rattle.std.specs.Prelude.{Bool, false, cond, ◌&&◌, ◌||◌, ℕ, ◌+◌, leb, ℤ, pos, negsuc, Float}
use Rattle.std.specs.Int.Signed.{le_z}
use Rattle.std.specs.Float.{fin}
use Rattle.std.specs.Float.Ieee.{le}

-- a signed number from 0 up
abbrev pub up_to : ℕ → ℤ → Bool
up_to most z = le_z (pos 0) z && le_z z (pos most)

-- a float in a range, and no NaN: m × 2^e to n × 2^k
abbrev pub between : ℕ → ℕ → ℕ → ℕ → Float → Bool
between m e n k x = le (fin false m (pos e)) x && le x (fin false n (pos k))

-- 2. "at most 2^48 − 1 ms"
abbrev pub clock : ℕ → Bool
clock ms = leb ms 281474976710655

-- 3. "at most 2^32 − 1 bytes"
abbrev pub frame_size : ℕ → Bool
frame_size bytes = leb bytes 4294967295

-- 5. "within ±2^42 µs"
abbrev pub delay : ℤ → Bool
delay us = le_z (negsuc 4398046511103) us && le_z us (pos 4398046511104)

-- 6. "long enough (48 sender, 68 receiver)", the number of a buffer of so many bytes
abbrev pub room : ℕ → ℕ → ℕ
room least bytes = cond (leb least bytes) 0 6

-- 7. "at least 47 (sender) or 67 (receiver) bytes", the number of a payload of so many bytes
abbrev pub payload : ℕ → ℕ → ℕ
payload least bytes = cond (leb least bytes) 0 7

-- 8. "a round trip for the estimator 0 to 2^42 µs, and a smoothed value for scheduling at most 2^42 µs"
abbrev pub round_trip : ℤ → Bool
round_trip = up_to 4398046511104

abbrev pub smoothed : ℤ → Bool
smoothed us = le_z us (pos 4398046511104)

-- 9. "the lower interval bound at most the upper". "A smoothed value of 0 or less skips 8 and 9"
abbrev pub bounds : ℤ → ℕ → ℕ → Bool
bounds us lo hi = le_z us (pos 0) || leb lo hi

-- 10. "able to hold the sum", of a counter whose greatest number is this
abbrev pub counter : ℕ → ℕ → ℕ → Bool
counter greatest count more = leb (count + more) greatest

-- 11. "a ratio 0 to 1, an ETX 1 to 100, an RTT in ms 0 to 2^33, a trend sample 0 to 2^64, none of them NaN". 100 is 25 × 2^2
abbrev pub ratio : Float → Bool
ratio = between 0 0 1 0

abbrev pub etx : Float → Bool
etx = between 1 0 25 2

abbrev pub rtt_ms : Float → Bool
rtt_ms = between 0 0 1 33

abbrev pub trend_sample : Float → Bool
trend_sample = between 0 0 1 64
