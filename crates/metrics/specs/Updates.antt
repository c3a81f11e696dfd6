-- A rekey and the reverse side, as metrics.rs has them: document 01, "Round trip, ratios and trends". Definitions only.
use Rattle.std.specs.Prelude.{true, false, cond, ◌&&◌, ℕ, ◌-◌, ltb, Float, None}
use Rattle.floats.specs.Operations.{one_float}
use Rattle.refusals.specs.Answers.{Update}
use Rattle.algorithms.specs.Etx.{etx_of}
use Rattle.figures.specs.Delivery.{delivery_ratio}
use Rattle.figures.specs.declared.Counters.{Counters}
use Rattle.metrics.specs.Fields.{with_ratios, with_kept, with_reverse}
use Rattle.metrics.specs.State.{refusal_of, updated}
use Rattle.metrics.specs.declared.MmpMetrics.{MmpMetrics}

-- ---- a rekey
-- no counter has moved
abbrev pub no_counters : Counters
no_counters = record { highest = 0; packets = 0; bytes = 0; ecn = 0; reorders = 0 }

-- "Rekey clears the saved counters and sets the forward ratio to 1; ETX and every other figure stay"
unfoldable pub rekeyed : MmpMetrics → MmpMetrics
rekeyed m =
    with_reverse
    (with_kept
    (with_ratios m (record { forward = one_float; reverse = m.delivery_ratio_reverse; etx = m.etx; goodput = m.goodput_bps }))
    (record { counters = no_counters; ms = None; has = false }))
    (record { packets = 0; highest = 0; has = false })

unfoldable pub rekey_of : MmpMetrics → Update MmpMetrics
rekey_of m = updated (refusal_of m) m (rekeyed m)

-- ---- the reverse side: what came to us of the frames that the peer sent
-- the reverse ratio, and ETX by it; no trend moves
abbrev pub with_reverse_ratio : MmpMetrics → Float → MmpMetrics
with_reverse_ratio m ratio =
    with_ratios m (record { forward = m.delivery_ratio_forward; reverse = ratio; etx = etx_of m.delivery_ratio_forward ratio; goodput = m.goodput_bps })

-- the ratio since the update before, where there was one and the peer's counter rose
unfoldable pub reverse_moved : MmpMetrics → ℕ → ℕ → MmpMetrics
reverse_moved m packets highest =
    cond (m.has_prev_reverse && ltb 0 (highest - m.prev_reverse_highest))
    (with_reverse_ratio m (delivery_ratio (packets - m.prev_reverse_packets) (highest - m.prev_reverse_highest)))
    m

-- and both counters kept
unfoldable pub reversed : MmpMetrics → ℕ → ℕ → MmpMetrics
reversed m packets highest = with_reverse (reverse_moved m packets highest) (record { packets = packets; highest = highest; has = true })

unfoldable pub reverse_of : MmpMetrics → ℕ → ℕ → Update MmpMetrics
reverse_of m packets highest = updated (refusal_of m) m (reversed m packets highest)
