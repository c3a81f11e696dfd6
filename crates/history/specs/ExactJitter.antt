-- The delay differences that the frames of a receiver give to jitter, read off the arguments of the calls that were not refused, and no record: document 01,
-- "Jitter, delay trend and bursts" and "The exact averages". Definitions only.
use Rattle.std.specs.Prelude.{Bool, true, false, cond, List, [], ◌∷◌, ◌++◌, ℕ, ◌+◌, ◌-◌, ◌%◌, ◌^◌, ltb, ℤ, pos, negsuc, ◌+ℤ◌, ◌-ℤ◌, ◌*ℤ◌}
use Rattle.history.specs.Paper.{grace}
use Rattle.history.specs.ReceiverCalls.{ReceiverCall}

-- ---- what a call is to the jitter
-- a sampled frame with its timestamp and clock, a rekey with its clock, or nothing
pub data Event : Type 0 where
  sampled : ℕ → ℕ → Event
  rekeyed : ℕ → Event
  no_event : Event

abbrev pub event_of : ReceiverCall → Event
event_of (ReceiverCall.record_frame f true) = sampled f.timestamp f.now
event_of (ReceiverCall.record_frame f false) = no_event
event_of (ReceiverCall.record_recv f) = sampled f.timestamp f.now
event_of (ReceiverCall.reset_for_rekey now) = rekeyed now
event_of (ReceiverCall.build_report times delays now) = no_event
event_of (ReceiverCall.update_report_interval_from_srtt srtt) = no_event
event_of (ReceiverCall.update_report_interval_with_bounds srtt lo hi) = no_event
event_of (ReceiverCall.ask q) = no_event

-- ---- grace: "A sample before the rekey deadline (rekey time + 15,000) updates neither jitter nor trend .. The first sample at or past it clears the grace"
pub data Grace : Type 0 where
  no_grace : Grace
  until : ℕ → Grace

unfoldable pub before_deadline : Grace → ℕ → Bool
before_deadline no_grace now = false
before_deadline (until deadline) now = ltb now deadline

unfoldable pub grace_by : Event → Grace → Grace
grace_by (sampled timestamp now) g = cond (before_deadline g now) g no_grace
grace_by (rekeyed now) g = until (now + grace)
grace_by no_event g = g

unfoldable pub grace_after : List ReceiverCall → Grace
grace_after [] = no_grace
grace_after (c ∷ l) = grace_by (event_of c) (grace_after l)

-- ---- the frame that the next one is measured from: the last one sampled, in grace too ("but does update the echo"), since the last rekey
pub data Last : Type 0 where
  no_frame : Last
  frame : ℕ → ℕ → Last

unfoldable pub last_by : Event → Last → Last
last_by (sampled timestamp now) f = frame now timestamp
last_by (rekeyed now) f = no_frame
last_by no_event f = f

unfoldable pub last_after : List ReceiverCall → Last
last_after [] = no_frame
last_after (c ∷ l) = last_by (event_of c) (last_after l)

-- ---- D
-- what is left of z over whole spans of 2^32: 0 to 2^32 − 1
unfoldable pub over_spans : ℤ → ℕ
over_spans (pos n) = n % 2 ^ 32
over_spans (negsuc n) = 2 ^ 32 - 1 - n % 2 ^ 32

-- "reduced to signed 32 bits": −2^31 to 2^31 − 1, whole spans of 2^32 from z
unfoldable pub reduced : ℤ → ℤ
reduced z = pos (over_spans (z +ℤ pos (2 ^ 31))) -ℤ pos (2 ^ 31)

-- "D = 1000 × (receive step, 0 if the clock fell, minus sender timestamp step), reduced to signed 32 bits"
unfoldable pub difference : ℕ → ℕ → ℕ → ℕ → ℤ
difference recv sent now timestamp = reduced (pos 1000 *ℤ (pos (now - recv) -ℤ (pos timestamp -ℤ pos sent)))

-- a frame after another gives one
unfoldable pub difference_from : Last → ℕ → ℕ → List ℤ
difference_from no_frame now timestamp = []
difference_from (frame recv sent) now timestamp = difference recv sent now timestamp ∷ []

-- ---- the differences since the last rekey
unfoldable pub differences_by : Event → Grace → Last → List ℤ → List ℤ
differences_by (sampled timestamp now) g f ds = cond (before_deadline g now) ds (ds ++ difference_from f now timestamp)
differences_by (rekeyed now) g f ds = []
differences_by no_event g f ds = ds

unfoldable pub differences : List ReceiverCall → List ℤ
differences [] = []
differences (c ∷ l) = differences_by (event_of c) (grace_after l) (last_after l) (differences l)
