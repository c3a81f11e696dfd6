-- The moments so far, moved on by the pairs that are left, are those over all, and the delays that are left are in range.
use Rattle.std.proofs.Common.{◌≡◌, true, length}
use Rattle.algorithms.specs.Owd.{pairs, samples_ok}
use Rattle.algorithms.specs.OwdTrend.{time, delay, product, plus}
use Rattle.algorithms.proofs.OwdStretches.{left_from}
use Rattle.algorithms.proofs.passes.moments_over.Given as goal

abbrev pub invariant-loop-at_ms : goal.invariant-loop-at_ms
invariant-loop-at_ms l =
    (plus (product time l.mean_x delay l.mean_y) l.num (left_from (length l.yielded) l.times l.delays) ≡ plus (product time l.mean_x delay l.mean_y) l.initial.num (pairs l.times l.delays))
    × (plus (product time l.mean_x time l.mean_x) l.den (left_from (length l.yielded) l.times l.delays) ≡ plus (product time l.mean_x time l.mean_x) l.initial.den (pairs l.times l.delays))
    × (samples_ok (left_from (length l.yielded) l.times l.delays) ≡ true)
