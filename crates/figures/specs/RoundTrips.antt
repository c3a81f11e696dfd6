-- The round trip that a report's echo tells, and the counts beside it: document 01, "Round trip, ratios and trends", and metrics.rs. Definitions only.
use Rattle.std.specs.Prelude.{Bool, cond, ℕ, ◌+◌, ◌-◌, ◌*◌, ltb, eqb, ℤ, Float}
use Rattle.std.specs.Float.{binary64}
use Rattle.std.specs.Float.Ieee.{div, of_int}
use Rattle.floats.specs.Operations.{thousand_float}
use Rattle.wire.specs.declared.receiver_report.ReceiverReport.{ReceiverReport}
use Rattle.figures.specs.declared.RoundTrip.{RoundTrip}
use Rattle.figures.specs.declared.RoundTrip.TheVariants.{NoEcho, Sample, Zero, ArithFail}

-- when the peer had our timestamp back on its way: the echo, and how long it dwelt there
abbrev pub send_done : ReceiverReport → ℕ
send_done rr = rr.timestamp_echo + rr.dwell_time

-- our time less echo and dwell, in whole ms: none without an echo, a failure where our time is before it, else zero or a sample
unfoldable pub round_trip : ReceiverReport → ℕ → RoundTrip
round_trip rr ours =
    cond (eqb rr.timestamp_echo 0) NoEcho
    (cond (ltb ours (send_done rr)) ArithFail
    (cond (eqb ours (send_done rr)) Zero
    (Sample (ours - send_done rr))))

-- a sample of whole ms, in µs
abbrev pub sample_us : ℕ → ℕ
sample_us ms = 1000 * ms

-- µs as ms, each operation rounded once: metrics.rs, `srtt_ms`
unfoldable pub milliseconds_of : ℤ → Float
milliseconds_of us = div binary64 (of_int binary64 us) thousand_float

-- document 02, W-205: "Each of the five kinds (stale, no echo, sample, zero, arithmetic failure)"; "their sum equals reports seen", as numbers
abbrev pub tallies_ok : ℕ → ℕ → ℕ → ℕ → ℕ → ℕ → Bool
tallies_ok seen stale no_echo samples zeros failures = eqb (stale + no_echo + samples + zeros + failures) seen
