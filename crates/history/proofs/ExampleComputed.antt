-- The worked history of specs/Example, computed.
use mathlib.Core.Path.{refl}
use Prim.Native.Nat.{ℕ, ◌<◌, ◌^◌}
use native.Mathlib.Omega.{arith}
use lib.Ieee as ieee
use Rattle.floats.specs.Operations as floats
use Rattle.numbers.specs.RoundTrip as numbers
use Rattle.numbers.specs.Jitter as averages
use Rattle.refusals.specs.Questions as questions
use Rattle.codec.specs.LittleEndian as bytes
use Rattle.codec.specs.Reading as reading
use Rattle.wire.specs.Payload as payloads
use Rattle.wire.specs.ReceiverReport as reports
use Rattle.wire.specs.declared.receiver_report.ReceiverReport.{ReceiverReport}
use Rattle.algorithms.specs.Srtt as estimators
use Rattle.algorithms.specs.Ewma as ewma
use Rattle.algorithms.specs.Jitter as jitters
use Rattle.algorithms.specs.Owd as owds
use Rattle.algorithms.specs.OwdTrend as trends
use Rattle.gaps.specs.Gaps as gaps
use Rattle.gaps.specs.Stats as stats
use Rattle.samples.specs.Words as words
use Rattle.samples.specs.Transit as transits
use Rattle.samples.specs.Delay as delays
use Rattle.samples.specs.Echo as echoes
use Rattle.receiver.specs.State as receivers
use Rattle.receiver.specs.Frames as frames
use Rattle.receiver.specs.Reports as built
use Rattle.figures.specs.Stale as stales
use Rattle.figures.specs.RoundTrips as trips
use Rattle.figures.specs.Goodput as goodputs
use Rattle.metrics.specs.State as state
use Rattle.metrics.specs.Reports as processed
use Rattle.metrics.specs.Updates as updates
use Rattle.history.specs.Run.{all_nil, all_cons, written_from, reached_from, accepted_from}
use Rattle.history.specs.ReceiverCalls.{receiver_step}
use Rattle.history.specs.MetricsCalls.{MetricsCall, metrics_step}
use Rattle.history.specs.Meant.{metrics_fits}
use Rattle.history.specs.ExactJitter as exact
use Rattle.history.specs.ExactRoundTrip as exactTrips
use Rattle.history.specs.Kinds as exactKinds
use Rattle.history.specs.Example.{report, Worked}

-- the reports of the example fit their types
taken : (ecn : ℕ) → ecn < 2 ^ 32 → reports.Fits (report ecn)
taken ecn h = record {
  highest_counter = omega arith;
  cumulative_packets_recv = omega arith;
  cumulative_bytes_recv = omega arith;
  timestamp_echo = omega arith;
  dwell_time = omega arith;
  max_burst_loss = omega arith;
  mean_burst_loss = omega arith;
  jitter = omega arith;
  ecn_ce_count = h;
  owd_trend = record { sfits = omega arith };
  burst_loss_count = omega arith;
  cumulative_reorder_count = omega arith;
  interval_packets_recv = omega arith;
  interval_bytes_recv = omega arith;
}

may : (rr : ReceiverReport) (ours : ℕ) → reports.Fits rr → ours < 2 ^ 32 → metrics_fits (MetricsCall.process_receiver_report rr ours 5000)
may rr ours f h = (f, h)

pub worked : Worked
unfolding written_from reached_from accepted_from metrics_step processed.process_of processed.process_refusal processed.processed processed.counted processed.stale_counted processed.newer_state processed.rtt_updated processed.sampled processed.traffic_updated processed.counters_saved processed.jitter_trend_updated processed.goodput_updated processed.delivery_updated state.keeps_the_rule state.trends_ok state.ratios_ok state.saved_in state.refusal_of updates.rekey_of updates.rekeyed stales.stale stales.fell stales.same trips.round_trip estimators.keeps_the_rule estimators.estimate_in estimators.stepped numbers.estimate_step numbers.average_step ewma.keeps_the_rule ewma.stepped questions.first_no exactTrips.kept_after exactTrips.stale exactTrips.one_fell exactTrips.all_equal exactTrips.trip_ms exactTrips.trips_ms exactKinds.kinds exactKinds.fresh_kind ieee.le ieee.lt ieee.of_int ieee.add ieee.sub ieee.mul ieee.div ieee.eq floats.step goodputs.goodput_after goodputs.goodput_over goodputs.seconds_of receiver_step frames.frame_of frames.frame_refusal frames.counted frames.reorders_after frames.marked_after frames.with_sample frames.pushes frames.timing_sampled frames.echo_if_sampled receivers.keeps_the_rule receivers.rekey_of receivers.rekeyed receivers.clock_refusal jitters.stepped jitters.refusal_of jitters.jitter_us_of owds.keeps_the_rule owds.new_of owds.grown owds.window trends.trend_of gaps.keeps_the_rule gaps.finished_bursts gaps.observed gaps.next_after gaps.burst_finished gaps.gap_counted gaps.gap_observed stats.stats_of stats.mean_burst words.modulo words.reduced transits.transit delays.younger delays.age_of delays.sent_ms delays.delay_us delays.delay_of delays.window_for delays.pushed echoes.echo_after built.built_of built.report_refusal built.built built.report_of exact.before_deadline exact.grace_by exact.grace_after exact.last_by exact.last_after exact.over_spans exact.reduced exact.difference exact.difference_from exact.differences_by exact.differences averages.jitter_average_step reports.encoded reports.decoded reports.decoded_by reports.report_in reading.length_answer reading.values_of reading.by_length payloads.written_into bytes.le_bytes bytes.le_at bytes.field_at
worked =
    record {
      reports_accepted = refl;
      second_stale = refl;
      trips = refl;
      averages = refl;
      smoothed = refl;
      kinds = refl;
      counted = refl;
      silent_counted = refl;
      fit = all_cons (may (report 0) 1030 (taken 0 (omega arith)) (omega arith)) (all_cons (may (report 0) 2000 (taken 0 (omega arith)) (omega arith)) (all_cons (may (report 1) 1038 (taken 1 (omega arith)) (omega arith)) (all_cons tt (all_cons (may (report 0) 1030 (taken 0 (omega arith)) (omega arith)) all_nil))));
      frames_accepted = refl;
      before_rekey = refl;
      after_rekey = refl;
      average_then = refl;
      reported = refl;
    }
