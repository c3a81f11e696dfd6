use Rattle.std.proofs.Common.{sym, refl}
use Rattle.refusals.specs.Answers.{answered}
use Rattle.metrics.proofs.WellWithin.{all_answered}
use Rattle.metrics.proofs.MmpMetrics.ask_report.Goals as goal

pub returns-then-numbers_near : goal.returns-then-numbers_near
unfolding answered
returns-then-numbers_near c = rw (all_answered c.args.self c.args.now_ms (c.floats_near.ensures c.if-floats_near.true) (c.numbers_near.ensures c.if-numbers_near.true)) refl
