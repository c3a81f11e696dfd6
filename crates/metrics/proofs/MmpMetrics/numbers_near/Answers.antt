-- The joined test of the numbers shows each of their ranges.
use Rattle.std.proofs.Common.{◌≡◌, sym, ◌∙◌, rules, w64, to_z, of_z}
use Rattle.algorithms.specs.Srtt.{keeps_the_rule}
use Rattle.refusals.proofs.MissingClock.{clock_read}
use Rattle.metrics.proofs.WellWithin.{numbers_near}
use Rattle.metrics.proofs.MmpMetrics.numbers_near.Goals as goal

pub returns-then-near : goal.returns-then-near
unfolding keeps_the_rule
returns-then-near c h =
    let m = c.args.self in
    let smoothed : to_z w64 (of_z w64 m.srtt.srtt_us) ≡ m.srtt.srtt_us = search rules in
    let variation : to_z w64 (of_z w64 m.srtt.rttvar_us) ≡ m.srtt.rttvar_us = search rules in
    numbers_near m c.args.now_ms c.unwrap_or-prev.result c.near_us-smoothed.result c.near_us-variation.result
    (clock_read _ m.prev_rr_ms c.unwrap_or-prev.ensures)
    (λ p q. rw (rw smoothed at (c.near_us-smoothed.ensures p), rw variation at (c.near_us-variation.ensures q)))
    c.if-near.true
    (sym c.tallies_ok.ensures ∙ h)
