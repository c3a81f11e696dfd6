-- EVERY ROW OF THE TABLE HOLDS, worked out from the definitions.
use mathlib.Core.Path.{◌≡◌, refl}
use mathlib.Core.Bool.{true}
use lib.Ieee as ieee
use Rattle.floats.specs.Operations as floats
use Rattle.numbers.specs.RoundTrip as numbers
use Rattle.refusals.specs.Answers as answers
use Rattle.refusals.specs.Questions as questions
use Rattle.algorithms.specs.Jitter as jitters
use Rattle.algorithms.specs.Srtt as estimators
use Rattle.algorithms.specs.Etx as etx
use Rattle.algorithms.specs.Owd as owd
use Rattle.algorithms.specs.OwdTrend as trend
use Rattle.gaps.specs.Gaps as gaps
use Rattle.gaps.specs.Stats as stats
use Rattle.samples.specs.Echo as echo
use Rattle.sender.specs.Backoff as backoff
use Rattle.receiver.specs.State as receiver
use Rattle.figures.specs.RoundTrips as trips
use Rattle.table.specs.Cells.{every_row}
use Rattle.table.specs.Rows.{table}

pub every_row_holds : every_row table ≡ true
unfolding answers.answer backoff.backoff echo.echo_after estimators.estimate_in estimators.stepped etx.etx_answer etx.etx_of floats.clamped gaps.burst_finished gaps.finished_bursts gaps.keeps_the_rule gaps.gap_counted gaps.gap_observed gaps.next_after gaps.observed ieee.add ieee.div ieee.eq ieee.le ieee.lt ieee.mul ieee.of_int ieee.sub ieee.to_signed jitters.jitter_us_of jitters.refusal_of jitters.stepped numbers.estimate_step owd.keeps_the_rule owd.new_of owd.window questions.first_no receiver.clock_refusal receiver.keeps_the_rule receiver.rekey_of receiver.rekeyed stats.mean_burst stats.stats_of trend.plus trend.slope trend.trend_answer trend.trend_from trend.trend_of trips.round_trip
every_row_holds = refl
