-- A report is built: document 01, "Jitter, delay trend and bursts", and receiver.rs, `build_report`. Definitions only.
use Rattle.std.specs.Prelude.{Bool, true, false, cond, List, [], ◌∷◌, ℕ, ◌-◌, ◌^◌, min, eqb, ℤ, length, Option, None, Some, Result}
use Rattle.refusals.specs.Answers.{settled_with}
use Rattle.refusals.specs.Questions.{question, first_no}
use Rattle.refusals.specs.Ranges.{clock_ok}
use Rattle.refusals.specs.declared.refusal.Refused.{Refused}
use Rattle.algorithms.specs.Jitter.{jitter_us_of}
use Rattle.algorithms.specs.Owd.{windows_ok, window, samples_ok}
use Rattle.algorithms.specs.OwdTrend.{trend_of}
use Rattle.gaps.specs.Stats.{stats_of}
use Rattle.gaps.specs.declared.GapTracker.{GapTracker}
use Rattle.gaps.specs.declared.IntervalStats.{IntervalStats}
use Rattle.samples.specs.Echo.{echo_of}
use Rattle.wire.specs.ReceiverReport.{no_report}
use Rattle.wire.specs.declared.receiver_report.ReceiverReport.{ReceiverReport}
use Rattle.receiver.specs.State.{keeps_the_rule}
use Rattle.receiver.specs.declared.ReceiverState.{ReceiverState}

-- a count, saturating at 32 bits
abbrev pub saturated : ℕ → ℕ
saturated count = min count (2 ^ 32 - 1)

-- the interval as a report says it, with the echo, its bursts, the jitter and the delay trend
unfoldable pub report_of : ReceiverState → IntervalStats → ℤ → ℕ → ReceiverReport
report_of s stats trend now =
    record {
      highest_counter = s.highest_counter;
      cumulative_packets_recv = s.cumulative_packets_recv;
      cumulative_bytes_recv = s.cumulative_bytes_recv;
      timestamp_echo = (echo_of s.last_recv_ms s.last_sender_timestamp now).timestamp_echo;
      dwell_time = (echo_of s.last_recv_ms s.last_sender_timestamp now).dwell_time;
      max_burst_loss = stats.max;
      mean_burst_loss = stats.mean;
      jitter = (jitter_us_of s.jitter).value;
      ecn_ce_count = s.ecn_ce_count;
      owd_trend = trend;
      burst_loss_count = stats.count;
      cumulative_reorder_count = saturated s.cumulative_reorder_count;
      interval_packets_recv = s.interval_packets_recv;
      interval_bytes_recv = s.interval_bytes_recv;
    }

-- a report at this time ends the interval; document 02, W-203: the lateness is "zeroed when a report is made"
abbrev pub reported : ReceiverState → GapTracker → ℕ → ReceiverState
reported s tracker now =
    record {
      cumulative_packets_recv = s.cumulative_packets_recv;
      cumulative_bytes_recv = s.cumulative_bytes_recv;
      cumulative_reorder_count = s.cumulative_reorder_count;
      highest_counter = s.highest_counter;
      interval_packets_recv = 0;
      interval_bytes_recv = 0;
      jitter = s.jitter;
      owd_trend = s.owd_trend;
      owd_ref = s.owd_ref;
      gap_tracker = tracker;
      ecn_ce_count = s.ecn_ce_count;
      last_sender_timestamp = s.last_sender_timestamp;
      last_recv_ms = s.last_recv_ms;
      rekey_jitter_grace_until_ms = s.rekey_jitter_grace_until_ms;
      last_report_ms = Some now;
      report_interval_ms = s.report_interval_ms;
      interval_has_data = false;
      srtt_sample_count = s.srtt_sample_count;
      interval_max_lateness = 0;
    }

-- a refusal's number, 0 for none, a report, zeros where there is none, and the record after it
pub record ReceiverReportBuilt : Type 0 where
  pub refusal : ℕ
  pub some : Bool
  pub report : ReceiverReport
  pub state : ReceiverState

-- the report, where there is one
unfoldable pub report_built : ReceiverReportBuilt → Option ReceiverReport
report_built r = cond r.some (Some r.report) None

-- no report: a refusal, or "No report for want of data is a plain answer"
abbrev pub none_built : ℕ → ReceiverState → ReceiverReportBuilt
none_built n s = record { refusal = n; some = false; report = no_report; state = s }

-- the report, and the interval ended: "A report closes an open burst"
abbrev pub some_built : ReceiverState → ℤ → ℕ → ReceiverReportBuilt
some_built s trend now = record { refusal = 0; some = true; report = report_of s (stats_of s.gap_tracker) trend now; state = reported s (stats_of s.gap_tracker).tracker now }

-- a report, where a frame has come since the last one
unfoldable pub built : ReceiverState → ℤ → ℕ → ReceiverReportBuilt
built s trend now = cond s.interval_has_data (some_built s trend now) (none_built 0 s)

-- document 01, questions 1, 2, 4, and 5 of every live sample, also where no report comes
unfoldable pub report_refusal : ReceiverState → List ℕ → List ℤ → ℕ → ℕ
report_refusal s times delays now =
    first_no (
    question 1 (keeps_the_rule s)
    ∷ question 2 (clock_ok now)
    ∷ question 4 (windows_ok s.owd_trend (length times) (length delays))
    ∷ question 5 (samples_ok (window s.owd_trend times delays))
    ∷ []
    )

-- the same after the questions
unfoldable pub built_of : ReceiverState → List ℕ → List ℤ → ℕ → ReceiverReportBuilt
built_of s times delays now =
    cond (eqb (report_refusal s times delays now) 0) (built s (trend_of (window s.owd_trend times delays)) now) (none_built (report_refusal s times delays now) s)

-- the same as the call's result
abbrev pub built_as : ReceiverReportBuilt → Result (ReceiverState × Option ReceiverReport) (Refused ReceiverState)
built_as b = settled_with b.refusal b.state (report_built b)
