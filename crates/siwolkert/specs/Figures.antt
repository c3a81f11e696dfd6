-- The jitter step and ETX across C: the status of the call, and the result by an out-parameter, which a refusal leaves as it was. Definitions only.
use Rattle.std.specs.Prelude.{ℕ, cond, eqb, ℤ, Float}
use Rattle.algorithms.specs.Jitter.{refusal_of, update_of}
use Rattle.algorithms.specs.Etx.{etx_answer}
use Rattle.algorithms.specs.declared.jitter.JitterEstimator.{JitterEstimator}

-- the estimator whose scaled jitter is j
abbrev pub estimator : ℤ → JitterEstimator
estimator j = record { jitter_q4 = j }

-- the refusal of an update
abbrev pub jitter_status : ℤ → ℕ
jitter_status j = refusal_of (estimator j)

-- the scaled jitter after the update, or what the caller had there
unfoldable pub jitter_into : ℤ → ℤ → ℤ → ℤ
jitter_into j d was = cond (eqb (jitter_status j) 0) (update_of (estimator j) d).state.jitter_q4 was

-- the refusal of an ETX
abbrev pub etx_status : Float → Float → ℕ
etx_status forward reverse = (etx_answer forward reverse).refusal

-- the ETX, or what the caller had there
unfoldable pub etx_into : Float → Float → Float → Float
etx_into forward reverse was = cond (eqb (etx_status forward reverse) 0) (etx_answer forward reverse).value was
