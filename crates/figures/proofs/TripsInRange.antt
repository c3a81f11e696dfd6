-- A round trip taken from a report is whole milliseconds and in the estimator's range, so question 8 never refuses.
use mathlib.Core.Path.{◌≡◌}
use mathlib.Core.Bool.{Bool, true, false, cond}
use mathlib.Core.List.{[], ◌∷◌}
use Prim.Native.Nat.{ℕ, ◌-◌, ◌^◌, ◌≤◌, ◌<◌}
use native.Mathlib.Omega.{arith}
use lib.Dec.{eqb, ltb, leb-zero}
use lib.IntN.{pos}
use borrow.Author.Tests.{le-leb}
use Rattle.refusals.specs.Questions.{question}
use Rattle.refusals.specs.Ranges.{round_trip_ok}
use Rattle.refusals.proofs.FirstNoFound.{EachYes, none_refuses}
use Rattle.algorithms.specs.Srtt.{keeps_the_rule, update_refusal}
use Rattle.algorithms.specs.declared.srtt.SrttEstimator.{SrttEstimator}
use Rattle.wire.specs.declared.receiver_report.ReceiverReport.{ReceiverReport}
use Rattle.figures.specs.RoundTrips.{send_done, round_trip, sample_us}
use Rattle.figures.specs.declared.RoundTrip.{RoundTrip}
use Rattle.figures.specs.declared.RoundTrip.TheVariants.{NoEcho, Sample, Zero, ArithFail}

-- the milliseconds of a sample, and 0 without one
abbrev sample_ms : RoundTrip → ℕ
sample_ms NoEcho = 0
sample_ms (Sample ms) = ms
sample_ms Zero = 0
sample_ms ArithFail = 0

trip_at_most : (rr : ReceiverReport) (ours : ℕ) → sample_ms (round_trip rr ours) ≤ ours
unfolding round_trip
trip_at_most rr ours = go (eqb rr.timestamp_echo 0) (ltb ours (send_done rr)) (eqb ours (send_done rr))
  where
    go : (a b c : Bool) → sample_ms (cond a NoEcho (cond b ArithFail (cond c Zero (Sample (ours - send_done rr))))) ≤ ours
    go true b c = omega arith
    go false true c = omega arith
    go false false true = omega arith
    go false false false = omega arith

-- a sample is at most our time
pub sample_at_most : (rr : ReceiverReport) (ours ms : ℕ) → round_trip rr ours ≡ Sample ms → ms ≤ ours
sample_at_most rr ours ms h = rw h at (trip_at_most rr ours)

-- 32 bits of milliseconds are below 2^42 µs
pub sample_in_range : (ms : ℕ) → ms < 2 ^ 32 → round_trip_ok (pos (sample_us ms)) ≡ true
sample_in_range ms h = rw leb-zero (le-leb (sample_us ms) (2 ^ 42) (omega arith))

-- the checked update of an estimator within its rule takes it
pub sample_accepted : (s : SrttEstimator) (ms : ℕ) → keeps_the_rule s ≡ true → ms < 2 ^ 32 → update_refusal s (pos (sample_us ms)) ≡ 0
unfolding update_refusal
sample_accepted s ms k h =
    let qs = question 1 (keeps_the_rule s) ∷ question 8 (round_trip_ok (pos (sample_us ms))) ∷ [] in
    let yes : EachYes qs = (k, (sample_in_range ms h, tt)) in
    none_refuses qs yes
