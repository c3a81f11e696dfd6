-- The length of the burst under way stays within the 16 bits of its type, in a new record and after every call, refused or not.
use mathlib.Core.Bool.{Bool, true, false, cond}
use mathlib.Core.List.{List}
use Prim.Native.Nat.{ℕ, ◌+◌}
use native.Mathlib.Omega.{arith}
use lib.Dec.{eqb}
use lib.IntN.{ℤ}
use Rattle.algorithms.specs.Owd.{window}
use Rattle.algorithms.specs.OwdTrend.{trend_of}
use Rattle.pace.specs.Updates.{cold_start_refusal}
use Rattle.gaps.proofs.RuleKept as gaps
use Rattle.gaps.proofs.RuleKept.{observed_fits, stats_fit}
use Rattle.receiver.specs.State.{grace, started_at, fresh, new_of, clock_refusal, updated, rekeyed, rekey_of}
use Rattle.receiver.specs.Frames.{counted, timing_sampled, echo_if_sampled, pushes, with_sample, frame_refusal, frame_of}
use Rattle.receiver.specs.Reports.{some_built, none_built, built, report_refusal, built_of}
use Rattle.receiver.specs.Pacing.{from_srtt_of, with_bounds_of}
use Rattle.receiver.specs.declared.ReceiverState.{ReceiverState}

-- what the type of the length of the burst under way keeps
abbrev pub Fits : ReceiverState → Type 0
Fits s = gaps.Fits s.gap_tracker

updated_fits : (n : ℕ) (s t : ReceiverState) → Fits s → Fits t → Fits (updated n s t).state
updated_fits n s t hs ht = go (eqb n 0)
  where
    go : (b : Bool) → Fits (cond b t s)
    go true = ht
    go false = hs

-- ---- a new record, a rekey
pub new_fits : (window ms : ℕ) → Fits (new_of window ms).state
unfolding new_of
new_fits window ms = go (eqb (cold_start_refusal ms) 0)
  where
    go : (b : Bool) → Fits (cond b (started_at window ms) fresh)
    go true = omega arith
    go false = omega arith

pub rekey_fits : (s : ReceiverState) (now : ℕ) → Fits s → Fits (rekey_of s now).state
unfolding rekey_of rekeyed
rekey_fits s now h = updated_fits (clock_refusal s now) s (rekeyed s (now + grace)) h (omega arith)

-- ---- a frame, a report
sample_fits : (s : ReceiverState) (timestamp now : ℕ) (sampled : Bool) → Fits s → Fits (with_sample s timestamp now sampled)
unfolding with_sample timing_sampled echo_if_sampled
sample_fits s timestamp now sampled h = go (pushes s now sampled) sampled
  where
    go : (b c : Bool) → Fits (cond b (timing_sampled s timestamp now) (echo_if_sampled s timestamp now c))
    go true c = h
    go false true = h
    go false false = h

pub frame_fits : (s : ReceiverState) (times : List ℕ) (delays : List ℤ) (counter timestamp bytes : ℕ) (ce : Bool) (now : ℕ) (sampled : Bool) → Fits s
    → Fits (frame_of s times delays counter timestamp bytes ce now sampled).state
unfolding frame_of counted
frame_fits s times delays counter timestamp bytes ce now sampled h =
    updated_fits (frame_refusal s times delays counter timestamp bytes now sampled) s (with_sample (counted s counter bytes ce) timestamp now sampled) h
    (sample_fits (counted s counter bytes ce) timestamp now sampled (observed_fits s.gap_tracker counter h))

pub report_fits : (s : ReceiverState) (times : List ℕ) (delays : List ℤ) (now : ℕ) → Fits s → Fits (built_of s times delays now).state
unfolding built_of built
report_fits s times delays now h = go (eqb (report_refusal s times delays now) 0) s.interval_has_data (report_refusal s times delays now) (trend_of (window s.owd_trend times delays))
  where
    go : (b c : Bool) (n : ℕ) (trend : ℤ) → Fits (cond b (cond c (some_built s trend now) (none_built 0 s)) (none_built n s)).state
    go true true n trend = stats_fit s.gap_tracker h
    go true false n trend = h
    go false c n trend = h

-- ---- the interval
pub from_srtt_fits : (s : ReceiverState) (srtt : ℤ) → Fits s → Fits (from_srtt_of s srtt).state
unfolding from_srtt_of
from_srtt_fits s srtt h = h

pub with_bounds_fits : (s : ReceiverState) (srtt : ℤ) (lo hi : ℕ) → Fits s → Fits (with_bounds_of s srtt lo hi).state
unfolding with_bounds_of
with_bounds_fits s srtt lo hi h = h
