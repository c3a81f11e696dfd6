-- What a lawful record answers of its SRTT in ms is from 0 to 2^33, and of its quality index from 0 to 2^92.
use mathlib.Core.Path.{◌≡◌}
use mathlib.Core.Bool.{true}
use lib.Dec.{lit≤}
use Rattle.floats.proofs.PowersAbove.{Below}
use Rattle.floats.proofs.Ranges.{in_range→within}
use Rattle.floats.specs.Operations.{zero_float}
use Rattle.refusals.specs.Ranges.{max_trend}
use Rattle.algorithms.specs.Etx.{quality_of}
use Rattle.algorithms.proofs.EwmaKeepsRule as trends
use Rattle.algorithms.proofs.QualityInRange.{quality_below}
use Rattle.figures.proofs.MillisecondsInRange.{smoothed_below}
use Rattle.metrics.specs.Accessors.{smoothed_ms}
use Rattle.metrics.specs.State.{keeps_the_rule}
use Rattle.metrics.specs.declared.MmpMetrics.{MmpMetrics}
use Rattle.metrics.proofs.QuestionsAnswered.{kept}

pub srtt_ms_in_range : (m : MmpMetrics) → keeps_the_rule m ≡ true → Below 33 (smoothed_ms m)
srtt_ms_in_range m h = smoothed_below m.srtt (kept m h).round_trip

pub quality_index_in_range : (m : MmpMetrics) → keeps_the_rule m ≡ true → Below 92 (quality_of m.etx_trend.long (smoothed_ms m))
quality_index_in_range m h =
    quality_below 64 (lit≤ tt) (in_range→within zero_float max_trend m.etx_trend.long (trends.kept m.etx_trend (kept m h).etx_trend).long) (srtt_ms_in_range m h)
