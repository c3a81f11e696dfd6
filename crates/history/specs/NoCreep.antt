-- THE STATEMENT: link figures don't creep, whatever calls two ends have had (demand 3). One statement about the whole list, `NoCreepHolds`; `no_creep` in
-- proofs/ proves it. Definitions only.
use Rattle.std.specs.Prelude.{◌≡◌, ◌≢◌, Bool, true, false, cond, List, map, ℕ, zero, suc, ◌+◌, ◌^◌, ℤ, pos, negsuc, nat_abs, Float, drop}
use Rattle.std.specs.Float.{binary64}
use Rattle.std.specs.Float.Ieee.{le, of_int}
use Rattle.numbers.specs.Bounds.{Within}
use Rattle.numbers.specs.Jitter.{JitterAverage, jitter_average_of}
use Rattle.numbers.specs.RoundTrip.{Estimate, no_estimate, estimate, average_of, SmoothedAbove, VariationWithin}
use Rattle.wire.specs.ReceiverReport.{encode_answer, encoded_into, decoded}
use Rattle.wire.specs.declared.receiver_report.ReceiverReport.{ReceiverReport}
use Rattle.algorithms.specs.declared.srtt.SrttEstimator.{SrttEstimator}
use Rattle.sender.specs.State as senders
use Rattle.receiver.specs.State as receivers
use Rattle.metrics.specs.State as metrics
use Rattle.metrics.specs.declared.MmpMetrics.{MmpMetrics}
use Rattle.history.specs.Paper.{greatest_etx, smoothed_bound, variation_bound, jitter_bound}
use Rattle.history.specs.Run as run
use Rattle.history.specs.Run.{Entry, Left, All, run_of, fits, not_full, calls_left, as_they_were, restored}
use Rattle.history.specs.Answers.{Fact, Answer}
use Rattle.history.specs.SenderCalls.{new_sender, sender_step}
use Rattle.history.specs.ReceiverCalls.{ReceiverCall, new_receiver, receiver_step}
use Rattle.history.specs.MetricsCalls.{MetricsCall, new_metrics, metrics_step}
use Rattle.history.specs.Asked.{Judged, put_to}
use Rattle.history.specs.ExactJitter.{differences}
use Rattle.history.specs.ExactRoundTrip as exact
use Rattle.history.specs.Kinds.{of_stale, of_no_echo, of_sample, of_zero, of_failure, count}
use Rattle.history.specs.Meant.{History, Reached}
use Rattle.history.specs.Recount.{recounted}
use Rattle.history.specs.Ends.{End, EndNew, new_end, EndCall, on_sender, on_receiver, on_metrics, Log, no_calls, Side, Two, at, put, Call, ends}

-- ---- "Begin two ends new", by any constructors with any arguments
abbrev pub begun : Two EndNew → Two End
begun k = record { west = new_end k.west; east = new_end k.east }

abbrev pub none_yet : Two Log
none_yet = record { west = no_calls; east = no_calls }

-- ---- "every list of calls on them": written out, the records at its end, and the calls that were not refused
abbrev pub written : Two EndNew → List Call → List (Entry ends)
written k h = run.written_from ends (begun k) none_yet h

abbrev pub reached : Two EndNew → List Call → Two End
reached k h = run.reached_from ends (begun k) h

abbrev pub accepted : Two EndNew → List Call → Two Log
accepted k h = run.accepted_from ends none_yet (written k h)

-- the history that an end's metrics mean after the list, and the record
abbrev pub meant : Side → Two EndNew → List Call → History
meant s k h = (at s (accepted k h)).metrics

abbrev pub metrics_at : Side → Two EndNew → List Call → MmpMetrics
metrics_at s k h = (at s (reached k h)).metrics

-- ---- each record is what the accepted calls on it reach by themselves
pub record Alone (n : EndNew) (x : Log) (e : End) : Type 0 where
  pub sender : e.sender ≡ run_of sender_step (new_sender n.sender) x.sender
  pub receiver : e.receiver ≡ run_of receiver_step (new_receiver n.receiver) x.receiver
  pub metrics : e.metrics ≡ run_of metrics_step (new_metrics n.metrics) x.metrics

-- ---- document 01, "State rule", of an end's three records
pub record Rules (e : End) : Type 0 where
  pub sender : senders.keeps_the_rule e.sender ≡ true
  pub receiver : receivers.keeps_the_rule e.receiver ≡ true
  pub metrics : metrics.keeps_the_rule e.metrics ≡ true

-- so no call is refused by 1; and each is refused by the first question to which its own arguments answer no, or accepted, unless the record answers no to one
abbrev pub NotByRule : Entry ends → Type 0
NotByRule n = n.refusal ≢ 1

abbrev pub AsAsked : Two EndNew → Entry ends → Type 0
AsAsked k n = Judged (put_to (at n.call.side k) n.call.call) n.refusal

-- ---- the figures of a metrics record, beside the exact averages of the calls on it
-- SRTT and RTTVAR as the record has them, from the first round trip on; the rule lets neither be negative
abbrev pub µs : ℤ → ℕ
µs (pos n) = n
µs (negsuc n) = 0

abbrev pub recorded : SrttEstimator → Estimate
recorded s = cond s.initialized (estimate (µs s.srtt_us) (µs s.rttvar_us)) no_estimate

-- a float in lo to hi
pub record Between (lo hi : ℕ) (x : Float) : Type 0 where
  pub low : le (of_int binary64 (pos lo)) x ≡ true
  pub high : le x (of_int binary64 (pos hi)) ≡ true

pub record FiguresHold (l : History) (m : MmpMetrics) : Type 0 where
  -- "smoothed round trip is never below the exact RFC 6298 average and less than 7 µs above it", over 8^n, from the first round trip on
  pub smoothed : SmoothedAbove smoothed_bound (average_of (exact.round_trips l)) (recorded m.srtt)
  -- "its variation is less than 10 µs off"
  pub variation : VariationWithin variation_bound (average_of (exact.round_trips l)) (recorded m.srtt)
  -- "delivery ratios are in 0 to 1 and ETX in 1 to 100"
  pub forward : Between 0 1 m.delivery_ratio_forward
  pub reverse : Between 0 1 m.delivery_ratio_reverse
  pub etx : Between 1 greatest_etx m.etx

-- ---- document 02, W-205: "Each of the five kinds .. equals the number of such calls, refused ones left out, in the history from new"
pub record KindsHold (l : History) (m : MmpMetrics) : Type 0 where
  pub stale : m.stale_reports ≡ count of_stale l
  pub no_echo : m.no_echo_reports ≡ count of_no_echo l
  pub samples : m.rtt_samples ≡ count of_sample l
  pub zeros : m.rtt_zero ≡ count of_zero l
  pub failures : m.rtt_arith_fail ≡ count of_failure l
  -- "and their sum equals reports seen", which are the reports processed, stale or not
  pub sum : m.stale_reports + m.no_echo_reports + m.rtt_samples + m.rtt_zero + m.rtt_arith_fail ≡ m.reports_seen
  pub seen : m.reports_seen ≡ exact.processed l

-- ---- "jitter in each decoded report is less than 1 µs from the exact RFC 3550 average at its building"
-- A: "0 when new and after each of its rekeys", then of every |D|
abbrev pub jitter_average : List ReceiverCall → JitterAverage
jitter_average l = jitter_average_of (map nat_abs (differences l))

-- decoded from the bytes that it is encoded to, in whichever buffer has room for them; over 16^n
pub record JitterHolds (a : JitterAverage) (rr : ReceiverReport) (out : List ℕ) : Type 0 where
  pub decodes : (decoded (drop 1 (encoded_into out rr))).refusal ≡ 0
  pub near : Within jitter_bound (16 ^ a.n) a.top (decoded (drop 1 (encoded_into out rr))).report.jitter

-- where the answer is a report: A is the average of the calls that its receiver had before
abbrev pub ReportHolds : Entry ends → Type 0
ReportHolds n =
    (rr : ReceiverReport) →
    n.answer ≡ Answer.receiver_report true rr →
    (out : List ℕ) →
    encode_answer out ≡ 0 →
    JitterHolds (jitter_average (at n.call.side n.before).receiver) rr out

-- ---- "Strike out any stale reports from the list"
-- a report processed, not refused, and stale beside the report kept in the list's own sense
abbrev pub end_stale : EndCall → Log → Bool
end_stale (on_sender c) x = false
end_stale (on_receiver c) x = false
end_stale (on_metrics c) x = exact.stale_call c x.metrics

abbrev pub unless_refused : ℕ → Bool → Bool
unless_refused zero b = b
unless_refused (suc n) b = false

abbrev pub stale_entry : Entry ends → Bool
stale_entry n = unless_refused n.refusal (end_stale n.call.call (at n.call.side n.before))

-- how many were struck out at each end
abbrev pub one_more : Call → Two ℕ → Two ℕ
one_more c t = put c.side (at c.side t + 1) t

abbrev pub none_struck : Two ℕ
none_struck = record { west = 0; east = 0 }

-- the entries left when the stale ones at the places given, one, some or all, are taken out
abbrev pub entries_left : Two EndNew → (ℕ → Bool) → List Call → List (Left ends (Two ℕ))
entries_left k places h = run.left_from ends one_more stale_entry places none_struck (written k h)

abbrev pub struck_out : Two EndNew → (ℕ → Bool) → List Call → Two ℕ
struck_out k places h = run.struck_from ends one_more stale_entry places none_struck (written k h)

-- "now alters two counters, reports seen and stale" (document 02, W-205): both are lower by what was struck out before at that end. Put back in their accessors' answers ..
abbrev pub raised_fact : ℕ → Fact → Fact
raised_fact d (Fact.number n) = Fact.number (n + d)
raised_fact d (Fact.yes_or_no b) = Fact.yes_or_no b
raised_fact d (Fact.float x) = Fact.float x
raised_fact d (Fact.optional_number o) = Fact.optional_number o
raised_fact d (Fact.optional_word o) = Fact.optional_word o
raised_fact d (Fact.optional_float o) = Fact.optional_float o
raised_fact d (Fact.counters c) = Fact.counters c

abbrev pub raised_answer : ℕ → Answer → Answer
raised_answer d (Answer.told f) = Answer.told (raised_fact d f)
raised_answer d Answer.nothing = Answer.nothing
raised_answer d (Answer.sender_report some r) = Answer.sender_report some r
raised_answer d (Answer.receiver_report some r) = Answer.receiver_report some r
raised_answer d (Answer.windows times delays) = Answer.windows times delays
raised_answer d (Answer.outcome o) = Answer.outcome o

abbrev pub restore_metrics : ℕ → MetricsCall → Answer → Answer
restore_metrics d MetricsCall.reports_seen a = raised_answer d a
restore_metrics d MetricsCall.stale_reports a = raised_answer d a
restore_metrics d (MetricsCall.process_receiver_report rr ours now) a = a
restore_metrics d MetricsCall.reset_for_rekey a = a
restore_metrics d (MetricsCall.update_reverse_delivery packets highest) a = a
restore_metrics d (MetricsCall.ask q) a = a

abbrev pub restore_end : ℕ → EndCall → Answer → Answer
restore_end d (on_sender c) a = a
restore_end d (on_receiver c) a = a
restore_end d (on_metrics c) a = restore_metrics d c a

abbrev pub restore : Two ℕ → Call → ℕ → Answer → Answer
restore t c refusal a = restore_end (at c.side t) c.call a

-- .. and in a record
abbrev pub restore_records : ℕ → End → End
restore_records d e = record { sender = e.sender; receiver = e.receiver; metrics = recounted e.metrics (e.metrics.reports_seen + d) (e.metrics.stale_reports + d) }

-- ---- the whole
pub record NoCreep (k : Two EndNew) (h : List Call) : Type 0 where
  -- after the list, at either end
  pub alone : (s : Side) → Alone (at s k) (at s (accepted k h)) (at s (reached k h))
  pub rules : (s : Side) → Rules (at s (reached k h))
  pub reaches : (s : Side) → Reached (meant s k h) (metrics_at s k h)
  pub figures : (s : Side) → FiguresHold (meant s k h) (metrics_at s k h)
  pub kinds : (s : Side) → KindsHold (meant s k h) (metrics_at s k h)
  -- every call
  pub not_by_rule : All NotByRule (written k h)
  pub as_asked : All (AsAsked k) (written k h)
  -- every report that a receiver in the list built
  pub reports : All ReportHolds (written k h)
  -- "every other answer .. stay[s] as [it was]": answers and refusals, where no call met 10
  pub answers :
      (places : ℕ → Bool) →
      All (not_full ends) (written k h) →
      restored ends restore (entries_left k places h) (written k (calls_left ends (entries_left k places h))) ≡ as_they_were ends (entries_left k places h)
  -- "and the final records stay as they were"
  pub records :
      (places : ℕ → Bool) →
      All (not_full ends) (written k h) →
      (s : Side) →
      restore_records (at s (struck_out k places h)) (at s (reached k (calls_left ends (entries_left k places h)))) ≡ at s (reached k h)
  -- what is left is such a list again, so that all of this holds of it too
  pub still_fits :
      (places : ℕ → Bool) →
      All (not_full ends) (written k h) →
      All (fits ends) (written k (calls_left ends (entries_left k places h)))

-- for every pair of new ends and every list of calls whose arguments fit their types
abbrev pub NoCreepHolds : Type 0
NoCreepHolds = (k : Two EndNew) (h : List Call) → All (fits ends) (written k h) → NoCreep k h
