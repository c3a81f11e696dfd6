-- The two runs are the window.
use Rattle.std.proofs.Common.{sym, ◌∙◌, rules}
use Rattle.std.specs.Float.Ieee.{of_bits}
use Rattle.floats.specs.Operations.{zero_float}
use Rattle.algorithms.proofs.OwdStretches.{summed_err, summed_ok}
use Rattle.algorithms.proofs.owd.OwdTrendDetector.window_sums.Goals as goal

pub returns-in_err-run : goal.returns-in_err-run
unfolding of_bits
returns-in_err-run c =
    let a = c.args in
    let stop = c.stop-stop in
    let k = summed_err a.self a.times.now a.delays.now c.requires stop.result stop.ensures zero_float zero_float c.in_err-run.field-0.0 (sym c.sums_over.ensures ∙ c.in_err-run.was) in search (rules, k)

pub returns : goal.returns
unfolding of_bits
returns c =
    let a = c.args in
    let stop = c.stop-stop in
    c.sums_over-2.ensures ∙ summed_ok a.self a.times.now a.delays.now c.requires stop.result stop.ensures zero_float zero_float c.in_ok-run.run' (sym c.sums_over.ensures ∙ c.in_ok-run.was)
