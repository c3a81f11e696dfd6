-- A frame is received: document 01, "Jitter, delay trend and bursts", document 02, W-203, and receiver.rs, `record_frame`. Definitions only.
use Rattle.std.specs.Prelude.{Bool, true, cond, not, ◌&&◌, ◌||◌, List, [], ◌∷◌, ℕ, ◌+◌, ◌-◌, ◌^◌, ◌<◌, min, max, eqb, ltb, ℤ, length, set, None, Option, Some}
use Rattle.refusals.specs.Answers.{Update}
use Rattle.refusals.specs.Questions.{question, first_no}
use Rattle.refusals.specs.Ranges.{clock_ok, frame_size_ok, delay_ok, counter_ok}
use Rattle.algorithms.specs.Owd.{windows_ok, free}
use Rattle.algorithms.specs.declared.jitter.JitterEstimator.{JitterEstimator}
use Rattle.algorithms.specs.declared.owd.OwdTrendDetector.{OwdTrendDetector}
use Rattle.gaps.specs.Gaps.{bursts_ok, observed}
use Rattle.gaps.specs.declared.Arrival.{Arrival}
use Rattle.gaps.specs.declared.Arrival.TheVariants.{First, InSequence, Gap, Behind}
use Rattle.samples.specs.Transit.{in_grace, jitter_after}
use Rattle.samples.specs.Delay.{reference_after, age_of, delay_of, window_for, pushed}
use Rattle.samples.specs.declared.delay.OwdBase.{OwdBase}
use Rattle.receiver.specs.State.{keeps_the_rule, updated}
use Rattle.receiver.specs.declared.ReceiverState.{ReceiverState}

-- ---- counting
-- a counter below the highest is out of order
unfoldable pub reorders_after : ℕ → ℕ → ℕ → ℕ
reorders_after reorders highest counter = cond (ltb counter highest) (reorders + 1) reorders

-- ECN: one more for a frame marked CE, saturating at 32 bits
unfoldable pub marked_after : ℕ → Bool → ℕ
marked_after count ce = cond ce (min (count + 1) (2 ^ 32 - 1)) count

-- document 02, W-203: how far behind a frame is, 0 where it is not
abbrev pub late_by : Arrival → ℕ
late_by First = 0
late_by InSequence = 0
late_by (Gap n) = 0
late_by (Behind n) = n

-- every frame is counted, in the lifetime exactly and in the interval as far as 32 bits go; "The receiver keeps the greatest lateness of the interval"
unfoldable pub counted : ReceiverState → ℕ → ℕ → Bool → ReceiverState
counted s counter bytes ce =
    record {
      cumulative_packets_recv = s.cumulative_packets_recv + 1;
      cumulative_bytes_recv = s.cumulative_bytes_recv + bytes;
      cumulative_reorder_count = reorders_after s.cumulative_reorder_count s.highest_counter counter;
      highest_counter = max s.highest_counter counter;
      interval_packets_recv = min (s.interval_packets_recv + 1) (2 ^ 32 - 1);
      interval_bytes_recv = min (s.interval_bytes_recv + bytes) (2 ^ 32 - 1);
      jitter = s.jitter;
      owd_trend = s.owd_trend;
      owd_ref = s.owd_ref;
      gap_tracker = (observed s.gap_tracker counter).tracker;
      ecn_ce_count = marked_after s.ecn_ce_count ce;
      last_sender_timestamp = s.last_sender_timestamp;
      last_recv_ms = s.last_recv_ms;
      rekey_jitter_grace_until_ms = s.rekey_jitter_grace_until_ms;
      last_report_ms = s.last_report_ms;
      report_interval_ms = s.report_interval_ms;
      interval_has_data = true;
      srtt_sample_count = s.srtt_sample_count;
      interval_max_lateness = max s.interval_max_lateness (late_by (observed s.gap_tracker counter).arrival);
    }

-- what the sums leave room for
pub record Room (s : ReceiverState) (bytes : ℕ) : Type 0 where
  pub packets_fit : s.cumulative_packets_recv + 1 < 2 ^ 64
  pub bytes_fit : s.cumulative_bytes_recv + bytes < 2 ^ 64
  pub reorders_fit : s.cumulative_reorder_count + 1 < 2 ^ 64

-- document 01, question 10: lifetime packets and bytes, and the bursts where this frame begins one
abbrev pub counters_ok : ReceiverState → ℕ → ℕ → Bool
counters_ok s counter bytes = counter_ok 64 s.cumulative_packets_recv 1 && counter_ok 64 s.cumulative_bytes_recv bytes && bursts_ok s.gap_tracker counter

-- ---- sampling
-- the figures of a sample, and what the echo reads: the timestamp and the time of the frame
abbrev pub with_timing : ReceiverState → JitterEstimator → OwdTrendDetector → Option OwdBase → Option ℕ → ℕ → ℕ → ReceiverState
with_timing s jitter window ref deadline timestamp now =
    record {
      cumulative_packets_recv = s.cumulative_packets_recv;
      cumulative_bytes_recv = s.cumulative_bytes_recv;
      cumulative_reorder_count = s.cumulative_reorder_count;
      highest_counter = s.highest_counter;
      interval_packets_recv = s.interval_packets_recv;
      interval_bytes_recv = s.interval_bytes_recv;
      jitter = jitter;
      owd_trend = window;
      owd_ref = ref;
      gap_tracker = s.gap_tracker;
      ecn_ce_count = s.ecn_ce_count;
      last_sender_timestamp = timestamp;
      last_recv_ms = Some now;
      rekey_jitter_grace_until_ms = deadline;
      last_report_ms = s.last_report_ms;
      report_interval_ms = s.report_interval_ms;
      interval_has_data = s.interval_has_data;
      srtt_sample_count = s.srtt_sample_count;
      interval_max_lateness = s.interval_max_lateness;
    }

-- a sample out of grace: jitter, trend, the reference that it was measured from, and no grace any more
unfoldable pub timing_sampled : ReceiverState → ℕ → ℕ → ReceiverState
timing_sampled s timestamp now =
    with_timing s (jitter_after s.jitter s.last_recv_ms s.last_sender_timestamp timestamp now) (pushed s.owd_trend s.owd_ref now)
    (reference_after s.owd_ref now timestamp) None timestamp now

-- "updates neither jitter nor trend, but does update the echo"; a frame not sampled moves nothing
unfoldable pub echo_if_sampled : ReceiverState → ℕ → ℕ → Bool → ReceiverState
echo_if_sampled s timestamp now sampled = cond sampled (with_timing s s.jitter s.owd_trend s.owd_ref s.rekey_jitter_grace_until_ms timestamp now) s

-- the frame pushes a sample: it is sampled, and out of grace
unfoldable pub pushes : ReceiverState → ℕ → Bool → Bool
pushes s now sampled = sampled && not (in_grace s.rekey_jitter_grace_until_ms now)

unfoldable pub with_sample : ReceiverState → ℕ → ℕ → Bool → ReceiverState
with_sample s timestamp now sampled = cond (pushes s now sampled) (timing_sampled s timestamp now) (echo_if_sampled s timestamp now sampled)

-- ---- the windows: one slot set by the frame that pushes a sample
-- the free slot of the window, which a restart clears first
unfoldable pub slot_for : ReceiverState → ℕ → ℕ
slot_for s now = free (window_for s.owd_trend s.owd_ref now)

unfoldable pub times_after : ReceiverState → List ℕ → ℕ → ℕ → Bool → List ℕ
times_after s times timestamp now sampled = cond (pushes s now sampled) (set times (slot_for s now) (age_of s.owd_ref timestamp now)) times

unfoldable pub delays_after : ReceiverState → List ℤ → ℕ → ℕ → Bool → List ℤ
delays_after s delays timestamp now sampled = cond (pushes s now sampled) (set delays (slot_for s now) (delay_of s.owd_ref timestamp now)) delays

-- ---- the call
-- document 01, question 5: the sample, where the frame pushes one
abbrev pub sample_ok : ReceiverState → ℕ → ℕ → Bool → Bool
sample_ok s timestamp now sampled = not (pushes s now sampled) || delay_ok (delay_of s.owd_ref timestamp now)

-- document 01, questions 1, 2, 3, 4, 5 and 10
unfoldable pub frame_refusal : ReceiverState → List ℕ → List ℤ → ℕ → ℕ → ℕ → ℕ → Bool → ℕ
frame_refusal s times delays counter timestamp bytes now sampled =
    first_no (
    question 1 (keeps_the_rule s)
    ∷ question 2 (clock_ok now)
    ∷ question 3 (frame_size_ok bytes)
    ∷ question 4 (windows_ok s.owd_trend (length times) (length delays))
    ∷ question 5 (sample_ok s timestamp now sampled)
    ∷ question 10 (counters_ok s counter bytes)
    ∷ []
    )

-- a frame of this counter, timestamp, size and mark, at this time, sampled or not: counted, then sampled
unfoldable pub frame_of : ReceiverState → List ℕ → List ℤ → ℕ → ℕ → ℕ → Bool → ℕ → Bool → Update ReceiverState
frame_of s times delays counter timestamp bytes ce now sampled = updated (frame_refusal s times delays counter timestamp bytes now sampled) s (with_sample (counted s counter bytes ce) timestamp now sampled)

-- the windows after it: as they were beside a refusal
unfoldable pub frame_times : ReceiverState → List ℕ → List ℤ → ℕ → ℕ → ℕ → ℕ → Bool → List ℕ
frame_times s times delays counter timestamp bytes now sampled = cond (eqb (frame_refusal s times delays counter timestamp bytes now sampled) 0) (times_after s times timestamp now sampled) times

unfoldable pub frame_delays : ReceiverState → List ℕ → List ℤ → ℕ → ℕ → ℕ → ℕ → Bool → List ℤ
frame_delays s times delays counter timestamp bytes now sampled = cond (eqb (frame_refusal s times delays counter timestamp bytes now sampled) 0) (delays_after s delays timestamp now sampled) delays
