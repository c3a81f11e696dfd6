-- The report interval from the smoothed round trip, of a sender and of a receiver: document 01, "Reports due". Definitions only.
use Rattle.std.specs.Prelude.{Bool, cond, ◌&&◌, [], ◌∷◌, ℕ, ◌*◌, eqb, ℤ, Result}
use Rattle.numbers.specs.Signs.{as_unsigned}
use Rattle.refusals.specs.Answers.{answered}
use Rattle.refusals.specs.Questions.{question, first_no}
use Rattle.refusals.specs.Ranges.{clock_ok, smoothed_ok, bounds_ok}
use Rattle.limits.specs.Limits.{max_report_interval}
use Rattle.pace.specs.Intervals.{floor_at, update_counted, next_interval}
use Rattle.refusals.specs.declared.refusal.Refusal.{Refusal}
use Rattle.pace.specs.declared.Pace.{Pace}

-- document 01, "Before any figure: the checks" of a cold-start interval: question 2 alone
unfoldable pub cold_start_refusal : ℕ → ℕ
cold_start_refusal ms = first_no (question 2 (clock_ok ms) ∷ [])

-- a refusal's number, 0 for none, and the report interval and the count of its updates: as they were on a refusal
pub record Paced : Type 0 where
  pub refusal : ℕ
  pub report_interval_ms : ℕ
  pub srtt_sample_count : ℕ

-- the same as a call's result
unfoldable pub paced : Paced → Result Pace Refusal
paced p = answered p.refusal (record { report_interval_ms = p.report_interval_ms; srtt_sample_count = p.srtt_sample_count })

-- an update whose refusal is n: the interval of so many times SRTT between the bounds, and the updates counted with this one. Both as they were on a refusal
unfoldable pub updated : ℕ → ℕ → ℕ → ℕ → ℤ → ℕ → ℕ → ℕ → Paced
updated n multiple interval count srtt lo hi updates =
    record {
      refusal = n;
      report_interval_ms = cond (eqb n 0) (next_interval interval (multiple * as_unsigned srtt) lo hi) interval;
      srtt_sample_count = cond (eqb n 0) updates count;
    }

-- document 01, questions 1 and 8. A value of 0 or less passes 8
unfoldable pub from_srtt_refusal : Bool → ℤ → ℕ
from_srtt_refusal ok srtt = first_no (question 1 ok ∷ question 8 (smoothed_ok srtt) ∷ [])

-- between the floor and "top 5,000": the update is counted, and the floor goes by the count
unfoldable pub from_srtt : Bool → ℕ → ℕ → ℕ → ℤ → Paced
from_srtt ok multiple interval count srtt = updated (from_srtt_refusal ok srtt) multiple interval count srtt (floor_at (update_counted count)) max_report_interval (update_counted count)

-- document 01, questions 1, 2 of both bounds, 8 and 9
unfoldable pub with_bounds_refusal : Bool → ℤ → ℕ → ℕ → ℕ
with_bounds_refusal ok srtt lo hi = first_no (question 1 ok ∷ question 2 (clock_ok lo && clock_ok hi) ∷ question 8 (smoothed_ok srtt) ∷ question 9 (bounds_ok srtt lo hi) ∷ [])

-- the caller's bounds, and nothing counted
unfoldable pub with_bounds : Bool → ℕ → ℕ → ℕ → ℤ → ℕ → ℕ → Paced
with_bounds ok multiple interval count srtt lo hi = updated (with_bounds_refusal ok srtt lo hi) multiple interval count srtt lo hi count
