-- THE INTERVALS BETWEEN REPORTS are those of document 01, "Reports due": its multiples, floors, top and doublings.
use Prim.Native.Nat.{ℕ, zero, suc, ◌+◌, ◌-◌, ◌*◌, ◌/◌, ◌^◌, ◌≤◌, ◌<◌, min, max}
use mathlib.Core.Path.{◌≡◌, refl, ap}
use mathlib.Core.Bool.{Bool, true, false, cond, ◌&&◌}
use mathlib.Core.List.{[], ◌∷◌}
use native.Mathlib.Nat.{mul-pos, mul-zero}
use native.Mathlib.Omega.{arith}
use lib.Dec.{leb, ltb}
use lib.IntN.{ℤ, pos, negsuc}
use lib.Signed.{le_z}
use borrow.Author.Tests.{le-leb, lt-leb, leb-true, ltb-true, ltb-false, ne_eqb}
use Rattle.limits.specs.Limits.{cold_start_samples, max_report_interval}
use Rattle.numbers.specs.Signs.{as_unsigned}
use Rattle.refusals.specs.Questions.{question}
use Rattle.refusals.specs.Ranges.{clock_ok, smoothed_ok, bounds_ok}
use Rattle.refusals.proofs.FirstNoFound.{each_yes}
use Rattle.refusals.proofs.Clauses.{either}
use Rattle.pace.specs.Intervals.{clamped, floor_at, update_counted, next_interval}
use Rattle.pace.specs.Updates.{from_srtt_refusal, with_bounds_refusal, updated, from_srtt, with_bounds}
use Rattle.sender.specs.State as sender-state
use Rattle.sender.specs.Pacing as sender
use Rattle.sender.specs.Backoff.{backoff}
use Rattle.sender.specs.declared.SenderState.{SenderState}
use Rattle.receiver.specs.State as receiver-state
use Rattle.receiver.specs.Pacing as receiver
use Rattle.receiver.specs.declared.ReceiverState.{ReceiverState}
use Rattle.sentences.specs.ReportsDue.{Updated, Bounded, multiplied}

-- between two bounds, the lesser being the lower
between : (lo hi x : ℕ) → lo ≤ hi → clamped lo hi x ≡ min hi (max lo x)
unfolding clamped
between lo hi x h = below (ltb x lo) (ltb-true x lo) (ltb-false x lo)
  where
    above : (t : Bool) → (t ≡ true → hi < x) → (t ≡ false → x ≤ hi) → lo ≤ x → cond t hi x ≡ min hi (max lo x)
    above true l g k = let a = l refl in omega arith
    above false l g k = let a = g refl in omega arith

    below : (t : Bool) → (t ≡ true → x < lo) → (t ≡ false → lo ≤ x) → cond t lo (cond (ltb hi x) hi x) ≡ min hi (max lo x)
    below true l g = let a = l refl in omega arith
    below false l g = above (ltb hi x) (ltb-true hi x) (ltb-false hi x) (g refl)

-- a time that is not 0, in whole ms between the bounds
next : (before us lo hi : ℕ) → 1 ≤ us → lo ≤ hi → next_interval before us lo hi ≡ min hi (max lo (us / 1000))
unfolding next_interval
next before us lo hi some h = simp (ne_eqb us 0 (λ e. absurd (omega arith))) (between lo hi (us / 1000) h)

-- "floor 200 for the first five updates"
floor_first : (n : ℕ) → n ≤ 5 → floor_at n ≡ 200
unfolding floor_at
floor_first n h = simp (le-leb n cold_start_samples (omega arith))

-- "then 1,000"
floor_then : (n : ℕ) → 5 < n → floor_at n ≡ 1000
unfolding floor_at
floor_then n h = simp (lt-leb n cold_start_samples (omega arith))

-- a value of 0 or less asks for no time
none : (srtt : ℤ) → le_z srtt (pos 0) ≡ true → as_unsigned srtt ≡ 0
none (pos n) e = let l = leb-true n 0 e in omega arith
none (negsuc n) e = refl

stays : (before times lo hi : ℕ) (srtt : ℤ) → le_z srtt (pos 0) ≡ true → next_interval before (times * as_unsigned srtt) lo hi ≡ before
unfolding next_interval
stays before times lo hi srtt z = rw (none srtt z, mul-zero times)

-- question 9 was answered yes
ordered : (ok : Bool) (us lo hi : ℕ) → 1 ≤ us → with_bounds_refusal ok (pos us) lo hi ≡ 0 → lo ≤ hi
unfolding with_bounds_refusal
ordered ok us lo hi l h =
    let y = each_yes (question 1 ok ∷ question 2 (clock_ok lo && clock_ok hi) ∷ question 8 (smoothed_ok (pos us)) ∷ question 9 (bounds_ok (pos us) lo hi) ∷ []) refl h in
    leb-true lo hi (either (leb us 0) (leb lo hi) y.1.1.1.0 (lt-leb us 0 l))

-- ---- an update that nothing refuses, from so many times SRTT, where `count` updates were counted before
module _ (ok : Bool) (times before count : ℕ) (some : 1 ≤ times) where
  from_srtt_lem : (srtt : ℤ) → from_srtt_refusal ok srtt ≡ 0 →
      Updated times srtt before (from_srtt ok times before count srtt).report_interval_ms count (from_srtt ok times before count srtt).srtt_sample_count
  unfolding from_srtt updated
  from_srtt_lem srtt h =
      record {
        first_five = λ us e l c. rw (h, e, floor_first (min (count + 1) (2 ^ 32 - 1)) (omega arith)) (next before (times * us) 200 5000 (mul-pos some l) (omega arith));
        then_on = λ us e l c. rw (h, e, floor_then (min (count + 1) (2 ^ 32 - 1)) (omega arith)) (next before (times * us) 1000 5000 (mul-pos some l) (omega arith));
        left = λ z. rw h (stays before times (floor_at (update_counted count)) max_report_interval srtt z);
        counts = rw h;
      }

  with_bounds_lem : (srtt : ℤ) (lo hi : ℕ) → with_bounds_refusal ok srtt lo hi ≡ 0 →
      Bounded times lo hi srtt before (with_bounds ok times before count srtt lo hi).report_interval_ms count (with_bounds ok times before count srtt lo hi).srtt_sample_count
  unfolding with_bounds updated
  with_bounds_lem srtt lo hi h =
      record {
        between = λ us e l. rw (h, e) (next before (times * us) lo hi (mul-pos some l) (ordered ok us lo hi l (rw e at h)));
        left = λ z. rw h (stays before times lo hi srtt z);
        counts = rw h;
      }

-- ---- "Sender interval is 2 × SRTT, receiver's 1 × SRTT"
pub sender_updated : (s : SenderState) (srtt : ℤ) → let u = sender.from_srtt_of s srtt in u.refusal ≡ 0 →
    Updated 2 srtt s.report_interval_ms u.state.report_interval_ms s.srtt_sample_count u.state.srtt_sample_count
unfolding sender.from_srtt_of from_srtt updated
sender_updated s srtt h = from_srtt_lem (sender-state.keeps_the_rule s) 2 s.report_interval_ms s.srtt_sample_count (omega arith) srtt h

pub receiver_updated : (s : ReceiverState) (srtt : ℤ) → let u = receiver.from_srtt_of s srtt in u.refusal ≡ 0 →
    Updated 1 srtt s.report_interval_ms u.state.report_interval_ms s.srtt_sample_count u.state.srtt_sample_count
unfolding receiver.from_srtt_of from_srtt updated
receiver_updated s srtt h = from_srtt_lem (receiver-state.keeps_the_rule s) 1 s.report_interval_ms s.srtt_sample_count (omega arith) srtt h

pub sender_bounded : (s : SenderState) (srtt : ℤ) (lo hi : ℕ) → let u = sender.with_bounds_of s srtt lo hi in u.refusal ≡ 0 →
    Bounded 2 lo hi srtt s.report_interval_ms u.state.report_interval_ms s.srtt_sample_count u.state.srtt_sample_count
unfolding sender.with_bounds_of with_bounds updated
sender_bounded s srtt lo hi h = with_bounds_lem (sender-state.keeps_the_rule s) 2 s.report_interval_ms s.srtt_sample_count (omega arith) srtt lo hi h

pub receiver_bounded : (s : ReceiverState) (srtt : ℤ) (lo hi : ℕ) → let u = receiver.with_bounds_of s srtt lo hi in u.refusal ≡ 0 →
    Bounded 1 lo hi srtt s.report_interval_ms u.state.report_interval_ms s.srtt_sample_count u.state.srtt_sample_count
unfolding receiver.with_bounds_of with_bounds updated
receiver_bounded s srtt lo hi h = with_bounds_lem (receiver-state.keeps_the_rule s) 1 s.report_interval_ms s.srtt_sample_count (omega arith) srtt lo hi h

-- ---- "Send failures multiply the sender's by 2, 4, 8, 16, 32, then 32"
pub failures_multiply : (n : ℕ) → backoff n ≡ multiplied n
unfolding backoff
failures_multiply zero = refl
failures_multiply (suc zero) = refl
failures_multiply (suc (suc zero)) = refl
failures_multiply (suc (suc (suc zero))) = refl
failures_multiply (suc (suc (suc (suc zero)))) = refl
failures_multiply (suc (suc (suc (suc (suc zero))))) = refl
failures_multiply (suc (suc (suc (suc (suc (suc n)))))) =
    let five : min (suc (suc (suc (suc (suc (suc n)))))) 5 ≡ 5 = omega arith in
    ap (λ (k : ℕ). 2 ^ k) five
