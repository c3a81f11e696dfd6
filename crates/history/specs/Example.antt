-- A history to look at, worked out: a report taken, the same again (stale), one with only ECN raised (fresh), a rekey, the first report once more (fresh again);
-- and frames before a rekey, in its grace and after it, then a report built, encoded and decoded. `Worked` says what comes of it; proofs/ computes it.
-- Definitions only.
use Rattle.std.specs.Prelude.{◌≡◌, true, false, List, [], ◌∷◌, ◌++◌, map, ℕ, pos, negsuc, drop, replicate}
use Rattle.numbers.specs.RoundTrip.{average, average_of, estimate}
use Rattle.wire.specs.ReceiverReport.{encoded_into, decoded}
use Rattle.wire.specs.declared.receiver_report.ReceiverReport.{ReceiverReport}
use Rattle.metrics.specs.declared.MmpMetrics.{MmpMetrics}
use Rattle.history.specs.Run.{Entry, All, fits}
use Rattle.history.specs.Answers.{Answer}
use Rattle.history.specs.SenderCalls.{SenderNew}
use Rattle.history.specs.ReceiverCalls.{ReceiverNew, ReceiverCall}
use Rattle.history.specs.MetricsCalls.{MetricsNew, MetricsCall}
use Rattle.history.specs.ExactJitter.{differences}
use Rattle.history.specs.ExactRoundTrip.{round_trips}
use Rattle.history.specs.Kinds.{of_stale, of_sample, kinds}
use Rattle.history.specs.Ends.{EndNew, on_receiver, on_metrics, Side, Two, Call, ends}
use Rattle.history.specs.NoCreep.{written, reached, accepted, recorded, jitter_average, stale_entry}

-- two ends, each with a window of two samples
abbrev pub end : EndNew
end = record { sender = SenderNew.new; receiver = ReceiverNew.new 2; metrics = MetricsNew.new }

abbrev pub begin : Two EndNew
begin = record { west = end; east = end }

-- ---- reports that come in at the west end
-- nine frames of 900 bytes in all, so many of them marked CE; so much of our time echoed after 20 ms
abbrev pub echoing : ℕ → ℕ → ReceiverReport
echoing echo ecn =
    record {
      highest_counter = 9;
      cumulative_packets_recv = 9;
      cumulative_bytes_recv = 900;
      timestamp_echo = echo;
      dwell_time = 20;
      max_burst_loss = 0;
      mean_burst_loss = 0;
      jitter = 0;
      ecn_ce_count = ecn;
      owd_trend = pos 0;
      burst_loss_count = 0;
      cumulative_reorder_count = 0;
      interval_packets_recv = 0;
      interval_bytes_recv = 0;
    }

abbrev pub report : ℕ → ReceiverReport
report ecn = echoing 1000 ecn

abbrev pub on_west_metrics : MetricsCall → Call
on_west_metrics c = record { side = Side.west; call = on_metrics c }

abbrev pub processing : ReceiverReport → ℕ → Call
processing rr ours = on_west_metrics (MetricsCall.process_receiver_report rr ours 5000)

abbrev pub reports : List Call
reports =
    processing (report 0) 1030
    ∷ processing (report 0) 2000
    ∷ processing (report 1) 1038
    ∷ on_west_metrics MetricsCall.reset_for_rekey
    ∷ processing (report 0) 1030
    ∷ []

-- a report without an echo, and the same again
abbrev pub silent : List Call
silent = processing (echoing 0 0) 1030 ∷ processing (echoing 0 0) 1030 ∷ []

-- ---- frames that come in at the east end
abbrev pub on_east_receiver : ReceiverCall → Call
on_east_receiver c = record { side = Side.east; call = on_receiver c }

-- a frame of 100 bytes, sampled
abbrev pub frame : ℕ → ℕ → ℕ → Call
frame counter timestamp now =
    on_east_receiver
    (ReceiverCall.record_recv (record { times = 0 ∷ 0 ∷ []; delays = pos 0 ∷ pos 0 ∷ []; counter = counter; timestamp = timestamp; bytes = 100; ce = false; now = now }))

-- the rekey at 2000 has a grace until 17000
abbrev pub two_frames : List Call
two_frames = frame 1 100 1000 ∷ frame 2 110 1013 ∷ []

abbrev pub frames : List Call
frames =
    two_frames
    ++ on_east_receiver (ReceiverCall.reset_for_rekey 2000)
    ∷ frame 1 200 16990
    ∷ frame 2 217 17000
    ∷ []

abbrev pub frames_and_report : List Call
frames_and_report = frames ++ on_east_receiver (ReceiverCall.build_report (0 ∷ 0 ∷ []) (pos 0 ∷ pos 0 ∷ []) 17100) ∷ []

abbrev pub refusals : List Call → List ℕ
refusals h = map (λ (n : Entry ends). n.refusal) (written begin h)

-- stale, no echo, samples, zeros, failures, and reports seen
abbrev pub counts : MmpMetrics → List ℕ
counts m = m.stale_reports ∷ m.no_echo_reports ∷ m.rtt_samples ∷ m.rtt_zero ∷ m.rtt_arith_fail ∷ m.reports_seen ∷ []

abbrev pub metrics : MmpMetrics
metrics = (reached begin reports).west.metrics

abbrev pub accepted_reports : List MetricsCall
accepted_reports = (accepted begin reports).west.metrics

abbrev pub accepted_frames : List ReceiverCall
accepted_frames = (accepted begin frames).east.receiver

-- a report built, encoded into 68 bytes and decoded: refusal, highest counter, echo, dwell and jitter
abbrev pub report_in : Answer → List ℕ
report_in (Answer.receiver_report true rr) =
    let d = decoded (drop 1 (encoded_into (replicate 68 255) rr)) in
    d.refusal ∷ d.report.highest_counter ∷ d.report.timestamp_echo ∷ d.report.dwell_time ∷ d.report.jitter ∷ []
report_in (Answer.receiver_report false rr) = []
report_in Answer.nothing = []
report_in (Answer.told f) = []
report_in (Answer.sender_report some r) = []
report_in (Answer.windows times delays) = []
report_in (Answer.outcome o) = []

pub record Worked : Type 0 where
  -- the five calls with reports
  pub reports_accepted : refusals reports ≡ 0 ∷ 0 ∷ 0 ∷ 0 ∷ 0 ∷ []
  pub second_stale : map stale_entry (written begin reports) ≡ false ∷ true ∷ false ∷ false ∷ false ∷ []
  pub trips : round_trips accepted_reports ≡ 10000 ∷ 18000 ∷ 10000 ∷ []
  -- S = 10875 µs and V = 4562.5 µs; SRTT and RTTVAR
  pub averages : average_of (round_trips accepted_reports) ≡ average 3 5568000 2336000
  pub smoothed : recorded metrics.srtt ≡ estimate 10875 4563
  -- the latest first; a rekey is no report
  pub kinds : kinds accepted_reports ≡ of_sample ∷ of_sample ∷ of_stale ∷ of_sample ∷ []
  pub counted : counts metrics ≡ 1 ∷ 0 ∷ 3 ∷ 0 ∷ 0 ∷ 4 ∷ []
  -- "seen 2, no echo 1, stale 1"
  pub silent_counted : counts (reached begin silent).west.metrics ≡ 1 ∷ 1 ∷ 0 ∷ 0 ∷ 0 ∷ 2 ∷ []
  -- every entry of it may stand in a list, so that the statement speaks of it
  pub fit : All (fits ends) (written begin reports)
  -- the five calls with frames: 3000 µs before the rekey, 7000 µs after it
  pub frames_accepted : refusals frames ≡ 0 ∷ 0 ∷ 0 ∷ 0 ∷ 0 ∷ []
  pub before_rekey : differences (accepted begin two_frames).east.receiver ≡ pos 3000 ∷ []
  pub after_rekey : differences accepted_frames ≡ negsuc 6999 ∷ []
  -- A = 7000/16 = 437.5 µs
  pub average_then : jitter_average accepted_frames ≡ record { n = 1; top = 7000 }
  -- the report built then says 437 µs
  pub reported : map (λ (n : Entry ends). report_in n.answer) (written begin frames_and_report) ≡ [] ∷ [] ∷ [] ∷ [] ∷ [] ∷ (0 ∷ 2 ∷ 217 ∷ 100 ∷ 437 ∷ []) ∷ []
