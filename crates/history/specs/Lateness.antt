-- How late the latest frame of an interval was: document 02, W-203. By the list, it is read off the arguments of the calls on a receiver that were not refused, and no
-- record; by one call, off the record that it gets. Definitions only.
use Rattle.std.specs.Prelude.{◌≡◌, ◌≢◌, Bool, true, false, cond, List, [], ◌∷◌, ◌++◌, ℕ, ◌+◌, ◌-◌, min, max, ltb, ℤ, None, Option, Some}
use Rattle.wire.specs.declared.receiver_report.ReceiverReport.{ReceiverReport}
use Rattle.receiver.specs.declared.ReceiverState.{ReceiverState}
use Rattle.history.specs.Paper.{greatest_counter}
use Rattle.history.specs.Run.{Entry, All, fits}
use Rattle.history.specs.Answers.{Fact, Answer}
use Rattle.history.specs.ReceiverCalls.{ReceiverQuestion, Frame, ReceiverCall, receiver_step}
use Rattle.history.specs.Ends.{EndNew, on_receiver, Side, Two, at, Call, ends}
use Rattle.history.specs.NoCreep.{written, reached, accepted}

-- ---- what a call is to the lateness
-- a frame with its counter, sampled or not, in grace or not; a report; a rekey; or nothing
pub data Event : Type 0 where
  arrived : ℕ → Event
  reported : Event
  rekeyed : Event
  no_event : Event

abbrev pub event_of : ReceiverCall → Event
event_of (ReceiverCall.record_frame f sampled) = arrived f.counter
event_of (ReceiverCall.record_recv f) = arrived f.counter
event_of (ReceiverCall.reset_for_rekey now) = rekeyed
event_of (ReceiverCall.build_report times delays now) = reported
event_of (ReceiverCall.update_report_interval_from_srtt srtt) = no_event
event_of (ReceiverCall.update_report_interval_with_bounds srtt lo hi) = no_event
event_of (ReceiverCall.ask q) = no_event

-- ---- "expected": the counter that should come next
-- the highest counter that came since new or the last rekey, if a frame did
pub data Highest : Type 0 where
  no_frame : Highest
  highest : ℕ → Highest

abbrev pub highest_by : Event → Highest → Highest
highest_by (arrived counter) no_frame = highest counter
highest_by (arrived counter) (highest n) = highest (max n counter)
highest_by reported h = h
highest_by rekeyed h = no_frame
highest_by no_event h = h

unfoldable pub highest_after : List ReceiverCall → Highest
highest_after [] = no_frame
highest_after (c ∷ l) = highest_by (event_of c) (highest_after l)

-- one more is expected, up to the greatest counter; before the first frame none is
pub data Due : Type 0 where
  none_due : Due
  due : ℕ → Due

abbrev pub due_after : Highest → Due
due_after no_frame = none_due
due_after (highest n) = due (min (n + 1) greatest_counter)

-- ---- "behind by n, where n is expected minus counter": that n, where the frame is behind
unfoldable pub behind : Due → ℕ → List ℕ
behind none_due counter = []
behind (due expected) counter = cond (ltb counter expected) ((expected - counter) ∷ []) []

-- of every frame that came behind since the last report or rekey. A report is made of frames: where none has come since, none is made and none was behind
abbrev pub latenesses_by : Event → Due → List ℕ → List ℕ
latenesses_by (arrived counter) d ns = behind d counter ++ ns
latenesses_by reported d ns = []
latenesses_by rekeyed d ns = []
latenesses_by no_event d ns = ns

unfoldable pub latenesses : List ReceiverCall → List ℕ
latenesses [] = []
latenesses (c ∷ l) = latenesses_by (event_of c) (due_after (highest_after l)) (latenesses l)

-- 0 where no frame is behind
unfoldable pub greatest : List ℕ → ℕ
greatest [] = 0
greatest (n ∷ ns) = max n (greatest ns)

-- ---- "The receiver keeps the greatest lateness of the interval, zeroed when a report is made and by a rekey, and offers it through an accessor": the list
-- the accessor
abbrev pub ask_lateness : ReceiverCall
ask_lateness = ReceiverCall.ask ReceiverQuestion.interval_max_lateness

-- each of its answers is the greatest of the calls before it, and none is refused
pub record Offered (l : List ReceiverCall) (refusal : ℕ) (answer : Answer) : Type 0 where
  pub accepted : refusal ≡ 0
  pub value : answer ≡ Answer.told (Fact.number (greatest (latenesses l)))

abbrev pub OfferedHolds : Entry ends → Type 0
OfferedHolds n = n.call.call ≡ on_receiver ask_lateness → Offered (at n.call.side n.before).receiver n.refusal n.answer

pub record Kept (k : Two EndNew) (h : List Call) : Type 0 where
  -- after the list, at either end
  pub kept : (s : Side) → (at s (reached k h)).receiver.interval_max_lateness ≡ greatest (latenesses (at s (accepted k h)).receiver)
  pub offered : All OfferedHolds (written k h)

-- for every pair of new ends and every list of calls whose arguments fit their types
abbrev pub KeptHolds : Type 0
KeptHolds = (k : Two EndNew) (h : List Call) → All (fits ends) (written k h) → Kept k h

-- ---- the same of one call, on any record, from new or not
abbrev pub due_in : Option ℕ → Due
due_in None = none_due
due_in (Some expected) = due expected

abbrev lateness_after : ReceiverCall → ReceiverState → ℕ
lateness_after c s = (receiver_step c s).state.interval_max_lateness

-- an accepted frame, sampled or not, in grace or not
abbrev Raised : ReceiverCall → ℕ → ReceiverState → Type 0
Raised c counter s = (receiver_step c s).refusal ≡ 0 → lateness_after c s ≡ greatest (s.interval_max_lateness ∷ behind (due_in s.gap_tracker.expected_next) counter)

-- a report is made, or none is, for want of data or by a refusal
pub record Building (times : List ℕ) (delays : List ℤ) (now : ℕ) (s : ReceiverState) : Type 0 where
  pub made : (rr : ReceiverReport) → (receiver_step (ReceiverCall.build_report times delays now) s).answer ≡ Answer.receiver_report true rr → lateness_after (ReceiverCall.build_report times delays now) s ≡ 0
  pub none : (rr : ReceiverReport) → (receiver_step (ReceiverCall.build_report times delays now) s).answer ≡ Answer.receiver_report false rr → (receiver_step (ReceiverCall.build_report times delays now) s).state ≡ s

pub record Moves (s : ReceiverState) : Type 0 where
  pub frame : (f : Frame) (sampled : Bool) → Raised (ReceiverCall.record_frame f sampled) f.counter s
  pub received : (f : Frame) → Raised (ReceiverCall.record_recv f) f.counter s
  pub report : (times : List ℕ) (delays : List ℤ) (now : ℕ) → Building times delays now s
  pub rekey : (now : ℕ) → (receiver_step (ReceiverCall.reset_for_rekey now) s).refusal ≡ 0 → lateness_after (ReceiverCall.reset_for_rekey now) s ≡ 0
  -- nothing else moves it, and a refused call moves nothing
  pub other : (c : ReceiverCall) → event_of c ≡ no_event → lateness_after c s ≡ s.interval_max_lateness
  pub refused : (c : ReceiverCall) → (receiver_step c s).refusal ≢ 0 → (receiver_step c s).state ≡ s

abbrev pub MovesHold : Type 0
MovesHold = (s : ReceiverState) → Moves s

-- ---- "Report bytes are untouched by this": only its accessor shows it
-- a record with another lateness, every other field as it is
abbrev pub later : ReceiverState → ℕ → ReceiverState
later s lateness =
    record {
      cumulative_packets_recv = s.cumulative_packets_recv;
      cumulative_bytes_recv = s.cumulative_bytes_recv;
      cumulative_reorder_count = s.cumulative_reorder_count;
      highest_counter = s.highest_counter;
      interval_packets_recv = s.interval_packets_recv;
      interval_bytes_recv = s.interval_bytes_recv;
      jitter = s.jitter;
      owd_trend = s.owd_trend;
      owd_ref = s.owd_ref;
      gap_tracker = s.gap_tracker;
      ecn_ce_count = s.ecn_ce_count;
      last_sender_timestamp = s.last_sender_timestamp;
      last_recv_ms = s.last_recv_ms;
      rekey_jitter_grace_until_ms = s.rekey_jitter_grace_until_ms;
      last_report_ms = s.last_report_ms;
      report_interval_ms = s.report_interval_ms;
      interval_has_data = s.interval_has_data;
      srtt_sample_count = s.srtt_sample_count;
      interval_max_lateness = lateness;
    }

-- two records alike but for it: every other call is refused alike, answers alike (the report that a build makes, and so its bytes; whether the rule is kept),
-- and leaves records that are alike but for it
pub record Untouched (c : ReceiverCall) (s : ReceiverState) (lateness : ℕ) : Type 0 where
  pub refusal : (receiver_step c (later s lateness)).refusal ≡ (receiver_step c s).refusal
  pub answer : (receiver_step c (later s lateness)).answer ≡ (receiver_step c s).answer
  pub state : later (receiver_step c (later s lateness)).state 0 ≡ later (receiver_step c s).state 0

abbrev pub UntouchedHolds : Type 0
UntouchedHolds = (c : ReceiverCall) → c ≢ ask_lateness → (s : ReceiverState) (lateness : ℕ) → Untouched c s lateness
