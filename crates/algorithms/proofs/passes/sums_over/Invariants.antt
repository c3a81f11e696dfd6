-- The sums so far, moved on by the pairs that are left, are those over all, and the delays that are left are in range where all are.
use Rattle.std.proofs.Common.{◌≡◌, length}
use Rattle.algorithms.specs.Owd.{pairs, samples_ok}
use Rattle.algorithms.specs.OwdTrend.{time, delay, plus}
use Rattle.algorithms.proofs.OwdStretches.{left_from}
use Rattle.algorithms.proofs.passes.sums_over.Given as goal

abbrev pub invariant-loop-at_ms : goal.invariant-loop-at_ms
invariant-loop-at_ms l =
    (plus time l.x (left_from (length l.yielded) l.times l.delays) ≡ plus time l.initial.x (pairs l.times l.delays))
    × (plus delay l.y (left_from (length l.yielded) l.times l.delays) ≡ plus delay l.initial.y (pairs l.times l.delays))
    × (samples_ok (left_from (length l.yielded) l.times l.delays) ≡ samples_ok (pairs l.times l.delays))
