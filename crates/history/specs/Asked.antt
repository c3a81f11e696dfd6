-- The questions of document 01, "Before any figure: the checks", put to a call's own arguments, in its order: clocks, sizes, windows, smoothed values and bounds.
-- Definitions only.
use Rattle.std.specs.Prelude.{◌≡◌, Bool, true, false, cond, ◌&&◌, ◌||◌, List, [], ◌∷◌, ℕ, min, max, leb, eqb, ℤ, pos, neg_ℤ, length}
use Rattle.std.specs.Int.Signed.{le_z}
use Rattle.history.specs.Paper.{greatest_clock, greatest_frame, greatest_delay, least_window, greatest_window, default_window}
use Rattle.history.specs.SenderCalls.{SenderQuestion, SenderCall}
use Rattle.history.specs.ReceiverCalls.{ReceiverNew, ReceiverQuestion, Frame, ReceiverCall}
use Rattle.history.specs.MetricsCalls.{MetricsCall}
use Rattle.history.specs.Ends.{EndNew, EndCall, on_sender, on_receiver, on_metrics}

-- a question by its number, and its answer
pub record Asked : Type 0 where
  pub number : ℕ
  pub answer : Bool

abbrev pub ask : ℕ → Bool → Asked
ask number answer = record { number = number; answer = answer }

-- "The first "no" refuses": its number, 0 where there is none
abbrev pub first_of : List Asked → ℕ
first_of [] = 0
first_of (q ∷ qs) = cond q.answer (first_of qs) q.number

-- a number stands in a list
abbrev pub among : ℕ → List ℕ → Bool
among n [] = false
among n (m ∷ ms) = eqb n m || among n ms

-- what is put to a call: questions that its own arguments answer, and after them the numbers of those that depend on the record
pub record Put : Type 0 where
  pub own : List Asked
  pub beside : List ℕ

abbrev pub put : List Asked → List ℕ → Put
put own beside = record { own = own; beside = beside }

-- the refusal of a call on a record that keeps its rule: the first question to which its own arguments answer no, and 0 where there is none, "since a row of eleven yeses must be
-- answered"; or there is none, and the record answers no to one of its questions
pub data Judged : Put → ℕ → Type 0 where
  by_arguments : {p : Put} → Judged p (first_of p.own)
  by_record : {p : Put} (n : ℕ) → first_of p.own ≡ 0 → among n p.beside ≡ true → Judged p n

-- 2. "every clock reading, interval and interval bound at most 2^48 − 1 ms"
abbrev pub clock : ℕ → Bool
clock ms = leb ms greatest_clock

-- 3. "the frame size at most 2^32 − 1 bytes"
abbrev pub frame_size : ℕ → Bool
frame_size bytes = leb bytes greatest_frame

-- 5. "within ±2^42 µs", of every sample of a lent window, live or not
unfoldable pub delays : List ℤ → Bool
delays [] = true
delays (d ∷ ds) = le_z (neg_ℤ (pos greatest_delay)) d && le_z d (pos greatest_delay) && delays ds

-- 8. "a smoothed value for scheduling at most 2^42 µs"
abbrev pub smoothed : ℤ → Bool
smoothed us = le_z us (pos greatest_delay)

-- 9. "the lower interval bound at most the upper", which a value of 0 or less skips
abbrev pub bounds : ℤ → ℕ → ℕ → Bool
bounds us lo hi = le_z us (pos 0) || leb lo hi

-- nothing but the rule; a clock; a smoothed value, between bounds or not
abbrev pub rule_alone : Put
rule_alone = put [] []

abbrev pub clock_alone : ℕ → Put
clock_alone now = put (ask 2 (clock now) ∷ []) []

abbrev pub from_srtt : ℤ → Put
from_srtt us = put (ask 8 (smoothed us) ∷ []) []

abbrev pub with_bounds : ℤ → ℕ → ℕ → Put
with_bounds us lo hi = put (ask 2 (clock lo && clock hi) ∷ ask 8 (smoothed us) ∷ ask 9 (bounds us lo hi) ∷ []) []

-- ---- sender. 10 is put to a call that raises a counter
abbrev pub sender_told : SenderQuestion → Put
sender_told (SenderQuestion.should_send_report now) = clock_alone now
sender_told SenderQuestion.send_failure_backoff_multiplier = rule_alone
sender_told SenderQuestion.keeps_rule = rule_alone
sender_told SenderQuestion.cumulative_packets_sent = rule_alone
sender_told SenderQuestion.cumulative_bytes_sent = rule_alone
sender_told SenderQuestion.report_interval_ms = rule_alone
sender_told SenderQuestion.consecutive_send_failures = rule_alone

abbrev pub to_sender : SenderCall → Put
to_sender (SenderCall.record_sent counter timestamp bytes) = put (ask 3 (frame_size bytes) ∷ []) (10 ∷ [])
to_sender (SenderCall.build_report now) = clock_alone now
to_sender SenderCall.record_send_failure = put [] (10 ∷ [])
to_sender SenderCall.record_send_success = rule_alone
to_sender (SenderCall.update_report_interval_from_srtt srtt) = from_srtt srtt
to_sender (SenderCall.update_report_interval_with_bounds srtt lo hi) = with_bounds srtt lo hi
to_sender (SenderCall.ask q) = sender_told q

-- ---- receiver, by the capacity of its window: what its constructor asked for, in bounds; the default one, also where a constructor is refused
abbrev pub clamped : ℕ → ℕ
clamped window = max least_window (min window greatest_window)

abbrev pub capacity_of : ReceiverNew → ℕ
capacity_of (ReceiverNew.new window) = clamped window
capacity_of ReceiverNew.default = default_window
capacity_of (ReceiverNew.new_with_cold_start window ms) = cond (clock ms) (clamped window) default_window

-- 4. "both window buffers exactly as long as the state's capacity"
abbrev pub windows : ℕ → List ℕ → List ℤ → Bool
windows capacity times ds = eqb (length times) capacity && eqb (length ds) capacity

abbrev pub frame : ℕ → Frame → Put
frame capacity f = put (ask 2 (clock f.now) ∷ ask 3 (frame_size f.bytes) ∷ ask 4 (windows capacity f.times f.delays) ∷ []) (10 ∷ [])

abbrev pub receiver_told : ReceiverQuestion → Put
receiver_told (ReceiverQuestion.should_send_report now) = clock_alone now
receiver_told ReceiverQuestion.keeps_rule = rule_alone
receiver_told ReceiverQuestion.cumulative_packets_recv = rule_alone
receiver_told ReceiverQuestion.cumulative_bytes_recv = rule_alone
receiver_told ReceiverQuestion.highest_counter = rule_alone
receiver_told ReceiverQuestion.jitter_us = rule_alone
receiver_told ReceiverQuestion.report_interval_ms = rule_alone
receiver_told ReceiverQuestion.last_recv_ms = rule_alone
receiver_told ReceiverQuestion.ecn_ce_count = rule_alone
receiver_told ReceiverQuestion.interval_max_lateness = rule_alone

-- 5 depends on the record only where a sample is out of range: which slots are live is the record's to say
abbrev pub to_receiver : ℕ → ReceiverCall → Put
to_receiver capacity (ReceiverCall.record_frame f sampled) = frame capacity f
to_receiver capacity (ReceiverCall.record_recv f) = frame capacity f
to_receiver capacity (ReceiverCall.reset_for_rekey now) = clock_alone now
to_receiver capacity (ReceiverCall.build_report times ds now) = put (ask 2 (clock now) ∷ ask 4 (windows capacity times ds) ∷ []) (cond (delays ds) [] (5 ∷ []))
to_receiver capacity (ReceiverCall.update_report_interval_from_srtt srtt) = from_srtt srtt
to_receiver capacity (ReceiverCall.update_report_interval_with_bounds srtt lo hi) = with_bounds srtt lo hi
to_receiver capacity (ReceiverCall.ask q) = receiver_told q

-- ---- metrics
abbrev pub to_metrics : MetricsCall → Put
to_metrics (MetricsCall.process_receiver_report rr ours now) = put (ask 2 (clock now) ∷ []) (10 ∷ [])
to_metrics MetricsCall.reset_for_rekey = rule_alone
to_metrics (MetricsCall.update_reverse_delivery packets highest) = rule_alone
to_metrics MetricsCall.reports_seen = rule_alone
to_metrics MetricsCall.stale_reports = rule_alone
to_metrics (MetricsCall.ask q) = rule_alone

abbrev pub put_to : EndNew → EndCall → Put
put_to k (on_sender c) = to_sender c
put_to k (on_receiver c) = to_receiver (capacity_of k.receiver) c
put_to k (on_metrics c) = to_metrics c
