-- How long an interval can get: no longer than the greatest of the old one and the bounds, so that an update leaves it in range.
use mathlib.Core.Path.{◌≡◌, refl}
use mathlib.Core.Bool.{Bool, true, false, cond}
use Prim.Native.Nat.{ℕ, ◌*◌, ◌/◌, ◌≤◌}
use native.Mathlib.Omega.{arith}
use lib.Dec.{leb, ltb, eqb}
use lib.IntN.{ℤ}
use borrow.Author.Tests.{ltb-false, le-leb, leb-true, eqb-true}
use Rattle.numbers.specs.Signs.{as_unsigned}
use Rattle.refusals.specs.Ranges.{max_clock, clock_ok}
use Rattle.limits.specs.Limits.{default_cold_start_interval, min_report_interval, max_report_interval, cold_start_samples}
use Rattle.pace.specs.Intervals.{clamped, floor_at, update_counted, next_interval}
use Rattle.pace.specs.Updates.{updated, from_srtt_refusal, from_srtt, with_bounds_refusal, with_bounds}
use Rattle.pace.proofs.QuestionsAnswered.{with_bounds_asked}

next_at_most : (interval us lo hi most : ℕ) → interval ≤ most → lo ≤ most → hi ≤ most → next_interval interval us lo hi ≤ most
unfolding next_interval clamped
next_at_most interval us lo hi most hs hl hh = go (eqb us 0) (ltb (us / 1000) lo) (ltb hi (us / 1000)) (ltb-false hi (us / 1000))
  where
    go : (a b c : Bool) → (c ≡ false → us / 1000 ≤ hi) → cond a interval (cond b lo (cond c hi (us / 1000))) ≤ most
    go true b c f = hs
    go false true c f = hl
    go false false true f = hh
    go false false false f = let l = f refl in omega arith

floor_at_most : (updates : ℕ) → floor_at updates ≤ min_report_interval
unfolding floor_at
floor_at_most updates = go (leb updates cold_start_samples)
  where
    go : (b : Bool) → cond b default_cold_start_interval min_report_interval ≤ min_report_interval
    go true = omega arith
    go false = omega arith

-- ---- refused or not
module _ (ok : Bool) (multiple interval count : ℕ) (srtt : ℤ) (h : clock_ok interval ≡ true) where
  updated_in_range : (n lo hi updates : ℕ) → (n ≡ 0 → (lo ≤ max_clock) × (hi ≤ max_clock)) → clock_ok (updated n multiple interval count srtt lo hi updates).report_interval_ms ≡ true
  unfolding updated
  updated_in_range n lo hi updates bounds = go (eqb n 0) (eqb-true n 0)
    where
      go : (b : Bool) → (b ≡ true → n ≡ 0) → clock_ok (cond b (next_interval interval (multiple * as_unsigned srtt) lo hi) interval) ≡ true
      go true f = let y = bounds (f refl) in le-leb _ max_clock (next_at_most interval (multiple * as_unsigned srtt) lo hi max_clock (leb-true interval max_clock h) y.0 y.1)
      go false f = h

  pub from_srtt_in_range : clock_ok (from_srtt ok multiple interval count srtt).report_interval_ms ≡ true
  unfolding from_srtt
  from_srtt_in_range = updated_in_range (from_srtt_refusal ok srtt) (floor_at (update_counted count)) max_report_interval (update_counted count) (λ e. (omega (arith, floor_at_most (update_counted count)), omega arith))

  pub with_bounds_in_range : (lo hi : ℕ) → clock_ok (with_bounds ok multiple interval count srtt lo hi).report_interval_ms ≡ true
  unfolding with_bounds
  with_bounds_in_range lo hi = updated_in_range (with_bounds_refusal ok srtt lo hi) lo hi count (λ e. let y = with_bounds_asked ok srtt lo hi e in (y.lower, y.upper))
