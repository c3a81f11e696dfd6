-- The two runs are the window.
use Rattle.std.specs.Float.Ieee.{of_bits}
use Rattle.floats.specs.Operations.{zero_float}
use Rattle.algorithms.specs.OwdTrend.{time, delay, product}
use Rattle.algorithms.proofs.OwdStretches.{plus_window, samples_window, same_runs}
use Rattle.algorithms.proofs.owd.OwdTrendDetector.window_moments.Goals as goal

pub moments_over-run-requires : goal.moments_over-run-requires
moments_over-run-requires c =
    let a = c.args in
    let r = c.requires.0 in
    let stop = c.stop-stop in
    ((same_runs a.self a.times.now a.delays.now r stop.result stop.ensures).0, (samples_window a.self a.times.now a.delays.now r stop.result stop.ensures c.requires.1).0)

pub moments_over-requires : goal.moments_over-requires
moments_over-requires c =
    let a = c.args in
    let r = c.requires.0 in
    let stop = c.stop-stop in
    ((same_runs a.self a.times.now a.delays.now r stop.result stop.ensures).1, (samples_window a.self a.times.now a.delays.now r stop.result stop.ensures c.requires.1).1)

pub returns : goal.returns
unfolding of_bits
returns c =
    let a = c.args in
    let r = c.requires.0 in
    let stop = c.stop-stop in
    let run = c.moments_over-run.ensures in
    let all = c.moments_over.ensures in (
      plus_window a.self a.times.now a.delays.now r stop.result stop.ensures (product time a.mean_x delay a.mean_y) zero_float run.0 all.0,
      plus_window a.self a.times.now a.delays.now r stop.result stop.ensures (product time a.mean_x time a.mean_x) zero_float run.1 all.1,
    )
