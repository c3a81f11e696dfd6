-- The transit difference of a sampled frame and the jitter after it: document 01, "Jitter, delay trend and bursts". Definitions only.
use Rattle.std.specs.Prelude.{Bool, false, ℕ, ◌-◌, ltb, ℤ, pos, ◌-ℤ◌, ◌*ℤ◌, None, Option, Some}
use Rattle.algorithms.specs.Jitter.{stepped}
use Rattle.algorithms.specs.declared.jitter.JitterEstimator.{JitterEstimator}
use Rattle.samples.specs.Words.{reduced}

-- "A sample before the rekey deadline"
abbrev pub in_grace : Option ℕ → ℕ → Bool
in_grace None now = false
in_grace (Some deadline) now = ltb now deadline

-- "D = 1000 × (receive step .. minus sender timestamp step), reduced to signed 32 bits"; the sender's step may be negative
unfoldable pub transit : ℕ → ℕ → ℕ → ℤ
transit step timestamp last = reduced (pos 1000 *ℤ (pos step -ℤ (pos timestamp -ℤ pos last)))

-- the jitter after a sample: none before it gives no step; "receive step, 0 if the clock fell"
abbrev pub jitter_after : JitterEstimator → Option ℕ → ℕ → ℕ → ℕ → JitterEstimator
jitter_after jitter None last timestamp now = jitter
jitter_after jitter (Some recv) last timestamp now = stepped jitter (transit (now - recv) timestamp last)
