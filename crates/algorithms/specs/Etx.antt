-- The expected transmission count and the quality index, over the floats of IEEE 754. Definitions only.
use Rattle.std.specs.Prelude.{cond, ◌&&◌, [], ◌∷◌, Float}
use Rattle.std.specs.Float.{binary64}
use Rattle.std.specs.Float.Ieee.{add, mul, div, le}
use Rattle.floats.specs.Operations.{zero_float, one_float, float, clamped}
use Rattle.refusals.specs.Answers.{Answer, answer}
use Rattle.refusals.specs.Questions.{question, first_no}
use Rattle.refusals.specs.Ranges.{max_etx, ratio_ok, etx_ok, rtt_ms_ok}

-- 100.0
abbrev pub hundred_float : Float
hundred_float = float 25 2

-- 1 / (forward × reverse), each operation rounded once, brought into 1 to the greatest ETX, which it is where the product is 0 or less: algorithms.rs, `compute_etx`.
unfoldable pub etx_of : Float → Float → Float
etx_of forward reverse = let product = mul binary64 forward reverse in cond (le product zero_float) max_etx (clamped one_float max_etx (div binary64 one_float product))

-- etx × (1 + rtt / 100), each operation rounded once: algorithms.rs, `quality_index`.
unfoldable pub quality_of : Float → Float → Float
quality_of etx rtt_ms = mul binary64 etx (add binary64 one_float (div binary64 rtt_ms hundred_float))

-- question 11 of both ratios, then ETX.
unfoldable pub etx_answer : Float → Float → Answer Float
etx_answer forward reverse = answer zero_float (first_no (question 11 (ratio_ok forward && ratio_ok reverse) ∷ [])) (etx_of forward reverse)

-- question 11 of the ETX and the RTT in ms, then the quality index.
unfoldable pub quality_answer : Float → Float → Answer Float
quality_answer etx rtt_ms = answer zero_float (first_no (question 11 (etx_ok etx && rtt_ms_ok rtt_ms) ∷ [])) (quality_of etx rtt_ms)
