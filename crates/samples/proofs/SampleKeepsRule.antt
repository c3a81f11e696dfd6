-- A sample ends within the rule: the jitter, the window and the reference after it keep theirs.
use Rattle.std.specs.Prelude.{None, Option, Some}
use mathlib.Core.Path.{◌≡◌, refl, ◌∙◌}
use mathlib.Core.Bool.{true}
use Prim.Native.Nat.{ℕ, ◌-◌}
use lib.IntN.{pos, ◌-ℤ◌, ◌*ℤ◌}
use mir.Syntax.{w32}
use mir.Val.{SFits}
use Rattle.algorithms.specs.Jitter as jitters
use Rattle.algorithms.specs.Owd as owds
use Rattle.algorithms.specs.declared.jitter.JitterEstimator.{JitterEstimator}
use Rattle.algorithms.specs.declared.owd.OwdTrendDetector.{OwdTrendDetector}
use Rattle.algorithms.proofs.JitterKeepsRule.{step_keeps_rule}
use Rattle.algorithms.proofs.OwdRuleKept.{cleared_keeps_rule, grown_keeps_capacity, grown_keeps_rule}
use Rattle.refusals.specs.Ranges.{clock_ok}
use Rattle.refusals.proofs.PickedByTest.{picked}
use Rattle.samples.specs.Transit.{transit, jitter_after}
use Rattle.samples.specs.Delay.{reference_ok, too_old, restarts, younger, base_of, window_for, pushed}
use Rattle.samples.specs.declared.delay.OwdBase.{OwdBase}
use Rattle.samples.proofs.Reduction.{reduced_fits}

-- D is a signed 32-bit number
pub transit_fits : (step timestamp last : ℕ) → SFits w32 (transit step timestamp last)
unfolding transit
transit_fits step timestamp last = reduced_fits (pos 1000 *ℤ (pos step -ℤ (pos timestamp -ℤ pos last)))

pub jitter_keeps_rule : (j : JitterEstimator) (recv : Option ℕ) (last timestamp now : ℕ) → jitters.keeps_the_rule j ≡ true → jitters.keeps_the_rule (jitter_after j recv last timestamp now) ≡ true
jitter_keeps_rule j None last timestamp now h = h
jitter_keeps_rule j (Some recv) last timestamp now h = step_keeps_rule j (transit (now - recv) timestamp last) (transit_fits (now - recv) timestamp last) h

pub window_keeps_rule : (w : OwdTrendDetector) (r : Option OwdBase) (now : ℕ) → owds.keeps_the_rule w ≡ true → owds.keeps_the_rule (window_for w r now) ≡ true
unfolding window_for
window_keeps_rule w r now h = picked (λ v. owds.keeps_the_rule v ≡ true) (restarts r now) (λ e. cleared_keeps_rule w h) (λ e. h)

-- clearing leaves the capacity, so that the lent buffers are still as long
pub window_keeps_capacity : (w : OwdTrendDetector) (r : Option OwdBase) (now : ℕ) → (window_for w r now).capacity ≡ w.capacity
unfolding window_for
window_keeps_capacity w r now = picked (λ (v : OwdTrendDetector). v.capacity ≡ w.capacity) (restarts r now) (λ e. refl) (λ e. refl)

pub pushed_keeps_rule : (w : OwdTrendDetector) (r : Option OwdBase) (now : ℕ) → owds.keeps_the_rule w ≡ true → owds.keeps_the_rule (pushed w r now) ≡ true
unfolding pushed
pushed_keeps_rule w r now h = grown_keeps_rule (window_for w r now) (window_keeps_rule w r now h)

pub pushed_keeps_capacity : (w : OwdTrendDetector) (r : Option OwdBase) (now : ℕ) → (pushed w r now).capacity ≡ w.capacity
unfolding pushed
pushed_keeps_capacity w r now = grown_keeps_capacity (window_for w r now) ∙ window_keeps_capacity w r now

-- what a sample was measured from is a valid reference
pub base_keeps_rule : (r : Option OwdBase) (now timestamp : ℕ) → reference_ok r ≡ true → clock_ok now ≡ true → clock_ok (base_of r now timestamp).recv_ms ≡ true
unfolding younger
base_keeps_rule None now timestamp h k = k
base_keeps_rule (Some b) now timestamp h k = picked (λ (d : OwdBase). clock_ok d.recv_ms ≡ true) (too_old b.recv_ms now) (λ e. k) (λ e. h)
