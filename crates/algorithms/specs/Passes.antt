-- The two passes over a delay window, along a run of slots: what the contracts of private functions cite, and no part of what the crate promises. Definitions only.
use Rattle.std.specs.Prelude.{ℕ, ◌-◌, cond, List, take, drop, Float, Result}
use Rattle.refusals.specs.Answers.{answered}
use Rattle.refusals.specs.declared.refusal.Refusal.{Refusal}
use Rattle.algorithms.specs.Owd.{Pair, samples_ok}
use Rattle.algorithms.specs.OwdTrend.{time, delay, plus}
use Rattle.algorithms.specs.declared.passes.Sums.{Sums}

-- the slots from `from` up to `to`
abbrev pub part : {A : Type 0} → ℕ → ℕ → List A → List A
part from to xs = take (to - from) (drop from xs)

-- question 5 of each pair, then the sums of the times and of the delays
unfoldable pub summed : Float → Float → List Pair → Result Sums Refusal
summed x y ps = answered (cond (samples_ok ps) 0 5) (record { x = plus time x ps; y = plus delay y ps })
