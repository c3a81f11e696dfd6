-- The echo of a report: document 01, "Promises and the checked examples", the row of the dwell, and receiver.rs, `build_report`. Definitions only.
use Rattle.std.specs.Prelude.{cond, ℕ, ◌-◌, ◌^◌, leb, None, Option, Some}
use Rattle.samples.specs.declared.echo.Echo.{Echo}

-- a timestamp echoed, and how long it dwelt here
abbrev pub echo : ℕ → ℕ → Echo
echo timestamp dwell = record { timestamp_echo = timestamp; dwell_time = dwell }

-- the longest dwell that fits on the wire
abbrev pub max_dwell : ℕ
max_dwell = 2 ^ 16 - 1

-- "dwell 65535 / 65536: echo kept / echo 0, dwell 65535"
unfoldable pub echo_after : ℕ → ℕ → Echo
echo_after timestamp dwell = cond (leb dwell max_dwell) (echo timestamp dwell) (echo 0 max_dwell)

-- the dwell is the time since the last sample, 0 if the clock fell; no sample yet: 0 and 0
abbrev pub echo_of : Option ℕ → ℕ → ℕ → Echo
echo_of None timestamp now = echo 0 0
echo_of (Some recv) timestamp now = echo_after timestamp (now - recv)
