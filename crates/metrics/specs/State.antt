-- The metrics' record, its rule and what a new one holds: document 01, "State rule", and metrics.rs. Definitions only.
use Rattle.std.specs.Prelude.{Bool, false, cond, ◌&&◌, [], ◌∷◌, ℕ, eqb, None}
use Rattle.floats.specs.Operations.{zero_float, one_float}
use Rattle.refusals.specs.Answers.{Update}
use Rattle.refusals.specs.Questions.{question, first_no}
use Rattle.refusals.specs.Ranges.{optional_clock_ok, ratio_ok, etx_ok}
use Rattle.algorithms.specs.Ewma as ewma
use Rattle.algorithms.specs.Srtt as estimator
use Rattle.figures.specs.Goodput.{goodput_ok}
use Rattle.figures.specs.RoundTrips.{tallies_ok}
use Rattle.figures.specs.Stale.{Saved, none, saved}
use Rattle.metrics.specs.Fields.{counters_in}
use Rattle.metrics.specs.declared.MmpMetrics.{MmpMetrics}

-- ---- the rule: document 01, "State rule"
-- the five trends are 0 to 2^64
unfoldable pub trends_ok : MmpMetrics → Bool
trends_ok m =
    ewma.keeps_the_rule m.rtt_trend
    && ewma.keeps_the_rule m.loss_trend
    && ewma.keeps_the_rule m.goodput_trend
    && ewma.keeps_the_rule m.jitter_trend
    && ewma.keeps_the_rule m.etx_trend

-- "ratios 0 to 1; ETX 1 to 100"; "goodput 0 to 2^74"
unfoldable pub ratios_ok : MmpMetrics → Bool
ratios_ok m = ratio_ok m.delivery_ratio_forward && ratio_ok m.delivery_ratio_reverse && etx_ok m.etx && goodput_ok m.goodput_bps

-- the five kinds add up to reports seen: document 02, W-205, in the place of "do not exceed"
abbrev pub tallied : MmpMetrics → Bool
tallied m = tallies_ok m.reports_seen m.stale_reports m.no_echo_reports m.rtt_samples m.rtt_zero m.rtt_arith_fail

-- the clock field obeys question 2; SRTT and RTTVAR are 0 to 2^42
unfoldable pub keeps_the_rule : MmpMetrics → Bool
keeps_the_rule m =
    optional_clock_ok m.prev_rr_ms
    && estimator.keeps_the_rule m.srtt
    && trends_ok m
    && ratios_ok m
    && tallied m

-- ---- a new record: metrics.rs, `new`. Nothing measured, every frame thought delivered
abbrev pub fresh : MmpMetrics
fresh =
    record {
      srtt = estimator.fresh;
      rtt_trend = ewma.fresh;
      loss_trend = ewma.fresh;
      goodput_trend = ewma.fresh;
      jitter_trend = ewma.fresh;
      etx_trend = ewma.fresh;
      delivery_ratio_forward = one_float;
      delivery_ratio_reverse = one_float;
      etx = one_float;
      goodput_bps = zero_float;
      prev_rr_cum_packets = 0;
      prev_rr_cum_bytes = 0;
      prev_rr_highest_counter = 0;
      prev_rr_ecn_ce = 0;
      prev_rr_reorder = 0;
      prev_rr_ms = None;
      has_prev_rr = false;
      prev_reverse_packets = 0;
      prev_reverse_highest = 0;
      has_prev_reverse = false;
      reports_seen = 0;
      rtt_samples = 0;
      rtt_zero = 0;
      rtt_arith_fail = 0;
      last_rtt_ms = None;
      stale_reports = 0;
      no_echo_reports = 0;
    }

-- ---- the report kept, for the stale test
-- its counters count where the record says that it has a report, with its time or without
unfoldable pub saved_in : MmpMetrics → Saved
saved_in m = cond m.has_prev_rr (saved (counters_in m)) none

-- ---- calls
-- document 01, question 1 alone
unfoldable pub refusal_of : MmpMetrics → ℕ
refusal_of m = first_no (question 1 (keeps_the_rule m) ∷ [])

-- a call on m whose refusal is n and that moves the state to t: the state as given on a refusal
abbrev pub updated : ℕ → MmpMetrics → MmpMetrics → Update MmpMetrics
updated n m t = record { refusal = n; state = cond (eqb n 0) t m }
