-- Where all four tests hold, each question is answered yes.
use Rattle.std.proofs.Common.{sym, ◌∙◌}
use mathlib.Core.Bool.{◌&&◌, and-eq-true_iff}
use Rattle.receiver.proofs.WellWithin.{all_answered}
use Rattle.receiver.proofs.ReceiverState.well_within.Goals as goal

pub returns : goal.returns
returns c h counter =
    let a = c.args in
    let clocks = c.clocks_near.result in
    let jitter = c.keeps_rule.result in
    let window = c.window_lent.result in
    let counts = c.counts_low.result in
    let x = (and-eq-true_iff (window && counts && jitter) clocks).0 h in
    let y = (and-eq-true_iff (window && counts) jitter).0 x.0 in
    let z = (and-eq-true_iff window counts).0 y.0 in
    all_answered a.self a.times a.delays a.bytes a.now_ms (c.clocks_near.ensures x.1) (sym c.keeps_rule.ensures ∙ y.1) (c.window_lent.ensures z.0) (c.counts_low.ensures z.1) counter
