-- The public calls on a `ReceiverState`, and the table that gives each the definition which its function's contract cites. Definitions only.
use Rattle.std.specs.Prelude.{Bool, true, List, ℕ, ℤ}
use Rattle.receiver.specs.State.{keeps_the_rule, with_window, fresh, new_of, rekey_of, packets_of, bytes_of, highest_of, jitter_of, interval_of, last_recv_of, ecn_of, lateness_of}
use Rattle.receiver.specs.Frames.{frame_of, frame_times, frame_delays}
use Rattle.receiver.specs.Reports.{built_of}
use Rattle.receiver.specs.Pacing.{from_srtt_of, with_bounds_of, should_send_of}
use Rattle.receiver.specs.declared.ReceiverState.{ReceiverState}
use Rattle.refusals.specs.Answers.{Update}
use Rattle.history.specs.Run.{Step}
use Rattle.history.specs.Answers.{Answer, Told, staying}
use Rattle.history.specs.Tellings as told

-- ---- a new record: each constructor with its arguments
pub data ReceiverNew : Type 0 where
  new : ℕ → ReceiverNew
  default : ReceiverNew
  new_with_cold_start : ℕ → ℕ → ReceiverNew

abbrev pub new_receiver : ReceiverNew → ReceiverState
new_receiver (new window) = with_window window
new_receiver default = fresh
new_receiver (new_with_cold_start window ms) = (new_of window ms).state

-- ---- questions: they move nothing
pub data ReceiverQuestion : Type 0 where
  should_send_report : ℕ → ReceiverQuestion
  keeps_rule : ReceiverQuestion
  cumulative_packets_recv cumulative_bytes_recv highest_counter jitter_us report_interval_ms last_recv_ms ecn_ce_count interval_max_lateness : ReceiverQuestion

unfoldable pub receiver_told : ReceiverQuestion → ReceiverState → Told
receiver_told (should_send_report now) s = told.bool (should_send_of s now)
receiver_told keeps_rule s = told.rule (keeps_the_rule s)
receiver_told cumulative_packets_recv s = told.u64 (packets_of s)
receiver_told cumulative_bytes_recv s = told.u64 (bytes_of s)
receiver_told highest_counter s = told.u64 (highest_of s)
receiver_told jitter_us s = told.u32 (jitter_of s)
receiver_told report_interval_ms s = told.u64 (interval_of s)
receiver_told last_recv_ms s = told.optional_u64 (last_recv_of s)
receiver_told ecn_ce_count s = told.u32 (ecn_of s)
receiver_told interval_max_lateness s = told.u64 (lateness_of s)

-- ---- a frame: the windows lent with it, counter, sender timestamp, bytes, CE mark and clock
pub record Frame : Type 0 where
  pub times : List ℕ
  pub delays : List ℤ
  pub counter : ℕ
  pub timestamp : ℕ
  pub bytes : ℕ
  pub ce : Bool
  pub now : ℕ

-- ---- the calls, with their arguments
pub data ReceiverCall : Type 0 where
  record_frame : Frame → Bool → ReceiverCall
  record_recv : Frame → ReceiverCall
  reset_for_rekey : ℕ → ReceiverCall
  build_report : List ℕ → List ℤ → ℕ → ReceiverCall
  update_report_interval_from_srtt : ℤ → ReceiverCall
  update_report_interval_with_bounds : ℤ → ℕ → ℕ → ReceiverCall
  ask : ReceiverQuestion → ReceiverCall

-- a frame, sampled or not: the record after it, and both windows
abbrev pub framing : Frame → Bool → ReceiverState → Step Answer ReceiverState
framing f sampled s =
    record {
      refusal = (frame_of s f.times f.delays f.counter f.timestamp f.bytes f.ce f.now sampled).refusal;
      answer =
          Answer.windows (frame_times s f.times f.delays f.counter f.timestamp f.bytes f.now sampled)
          (frame_delays s f.times f.delays f.counter f.timestamp f.bytes f.now sampled);
      state = (frame_of s f.times f.delays f.counter f.timestamp f.bytes f.ce f.now sampled).state;
    }

-- a call that hands back a record and no more
abbrev pub updating : Update ReceiverState → Step Answer ReceiverState
updating u = record { refusal = u.refusal; answer = Answer.nothing; state = u.state }

unfoldable pub receiver_step : ReceiverCall → ReceiverState → Step Answer ReceiverState
receiver_step (record_frame f sampled) s = framing f sampled s
receiver_step (record_recv f) s = framing f true s
receiver_step (reset_for_rekey now) s = updating (rekey_of s now)
receiver_step (build_report times delays now) s =
    record {
      refusal = (built_of s times delays now).refusal;
      answer = Answer.receiver_report (built_of s times delays now).some (built_of s times delays now).report;
      state = (built_of s times delays now).state;
    }
receiver_step (update_report_interval_from_srtt srtt) s = updating (from_srtt_of s srtt)
receiver_step (update_report_interval_with_bounds srtt lo hi) s = updating (with_bounds_of s srtt lo hi)
receiver_step (ask q) s = staying s (receiver_told q s)
