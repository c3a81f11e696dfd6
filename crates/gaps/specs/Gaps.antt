-- Gaps in the counters as bursts of lost frames: document 01, "Jitter, delay trend and bursts", document 02, W-201 and W-203, and receiver.rs, `GapTracker`.
-- Definitions only.
use Rattle.std.specs.Prelude.{Bool, true, false, cond, not, ◌&&◌, ◌||◌, ℕ, ◌+◌, ◌-◌, ◌*◌, ◌^◌, min, max, leb, ltb, eqb, None, Option, Some}
use Rattle.refusals.specs.Ranges.{counter_ok}
use Rattle.gaps.specs.declared.Arrival.{Arrival}
use Rattle.gaps.specs.declared.Arrival.TheVariants.{First, InSequence, Gap, Behind}
use Rattle.gaps.specs.declared.GapTracker.{GapTracker}
use Rattle.gaps.specs.declared.Observed.{Observed}

-- where a burst's length stops
abbrev pub max_length : ℕ
max_length = 2 ^ 16 - 1

-- at which the expected counter saturates
abbrev pub max_counter : ℕ
max_counter = 2 ^ 64 - 1

-- ---- the rule: document 01, "State rule"
-- the finished bursts: the count, less one inside a burst
unfoldable pub finished_bursts : GapTracker → ℕ
finished_bursts t = cond t.in_burst (t.burst_count - 1) t.burst_count

-- outside a burst its current length is 0; inside one the burst count is at least 1; the total is at most 65,535 × finished bursts
unfoldable pub keeps_the_rule : GapTracker → Bool
keeps_the_rule t =
    (t.in_burst || eqb t.current_burst_len 0) && (not t.in_burst || leb 1 t.burst_count) && leb t.total_burst_len (max_length * finished_bursts t)

-- no frame yet
abbrev pub fresh : GapTracker
fresh =
    record {
      expected_next = None;
      in_burst = false;
      current_burst_len = 0;
      burst_count = 0;
      max_burst_len = 0;
      total_burst_len = 0;
    }

-- ---- the gap before a frame
-- the frames missing before this counter; none before a first frame, one in order or a late one
abbrev pub gap_at : Option ℕ → ℕ → ℕ
gap_at None counter = 0
gap_at (Some expected) counter = counter - expected

-- a gap outside a burst begins one
abbrev pub begins_burst : GapTracker → ℕ → Bool
begins_burst t counter = not t.in_burst && leb 1 (gap_at t.expected_next counter)

-- document 01, question 10: where the frame begins a burst, the count can hold one more
abbrev pub bursts_ok : GapTracker → ℕ → Bool
bursts_ok t counter = not (begins_burst t counter) || counter_ok 32 t.burst_count 1

-- the counter expected after a frame: one more, and after a late frame the one expected before
unfoldable pub next_after : ℕ → ℕ → ℕ
next_after expected counter = cond (leb expected counter) (min (counter + 1) max_counter) expected

-- ---- where a frame stands: document 02, W-203, "first, in sequence, a gap of n, or behind by n"
-- after another; "where n is expected minus counter"
unfoldable pub arrival_after : ℕ → ℕ → Arrival
arrival_after expected counter = cond (ltb expected counter) (Gap (counter - expected)) (cond (ltb counter expected) (Behind (expected - counter)) InSequence)

-- beside the expected counter, if there was one
abbrev pub arrival_at : Option ℕ → ℕ → Arrival
arrival_at None counter = First
arrival_at (Some expected) counter = arrival_after expected counter

-- "the commit's number from `observe` is n for a gap and 0 for the other three"
abbrev pub lost_before : Arrival → ℕ
lost_before First = 0
lost_before InSequence = 0
lost_before (Gap n) = n
lost_before (Behind n) = 0

-- ---- a frame
-- this counter is expected next
abbrev pub expecting : GapTracker → ℕ → GapTracker
expecting t next =
    record {
      expected_next = Some next;
      in_burst = t.in_burst;
      current_burst_len = t.current_burst_len;
      burst_count = t.burst_count;
      max_burst_len = t.max_burst_len;
      total_burst_len = t.total_burst_len;
    }

-- under way or not, with this length, and so many bursts counted
abbrev pub burst : GapTracker → Bool → ℕ → ℕ → GapTracker
burst t underway len count =
    record {
      expected_next = t.expected_next;
      in_burst = underway;
      current_burst_len = len;
      burst_count = count;
      max_burst_len = t.max_burst_len;
      total_burst_len = t.total_burst_len;
    }

-- the burst under way is recorded: its length is in the greatest and in the total
abbrev pub burst_recorded : GapTracker → GapTracker
burst_recorded t =
    record {
      expected_next = t.expected_next;
      in_burst = false;
      current_burst_len = 0;
      burst_count = t.burst_count;
      max_burst_len = max t.max_burst_len t.current_burst_len;
      total_burst_len = min (t.total_burst_len + t.current_burst_len) max_counter;
    }

-- no burst is under way any more
unfoldable pub burst_finished : GapTracker → GapTracker
burst_finished t = cond t.in_burst (burst_recorded t) t

-- document 02, W-201: "A gap now counts fully and stops at 65,535"
abbrev pub gap_length : ℕ → ℕ
gap_length gap = min gap max_length

-- "both when it begins a burst and when it extends one"
unfoldable pub gap_counted : GapTracker → ℕ → GapTracker
gap_counted t gap =
    cond t.in_burst (burst t t.in_burst (min (t.current_burst_len + gap_length gap) max_length) t.burst_count)
    (burst t true (gap_length gap) (min (t.burst_count + 1) (2 ^ 32 - 1)))

-- a gap is a burst or part of one; a frame in order, or a late one, ends it
unfoldable pub gap_observed : GapTracker → ℕ → GapTracker
gap_observed t gap = cond (eqb gap 0) (burst_finished t) (gap_counted t gap)

-- the tracker after a frame of this counter, beside the expected one
abbrev pub tracked_after : Option ℕ → GapTracker → ℕ → GapTracker
tracked_after None t counter = expecting t (min (counter + 1) max_counter)
tracked_after (Some expected) t counter = expecting (gap_observed t (counter - expected)) (next_after expected counter)

-- a frame of this counter
unfoldable pub observed : GapTracker → ℕ → Observed
observed t counter = record { arrival = arrival_at t.expected_next counter; tracker = tracked_after t.expected_next t counter }
