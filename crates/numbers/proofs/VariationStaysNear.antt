-- Where SRTT is less than g from the exact average, above or below, RTTVAR stays less than g + 3 from the exact variation. For any
-- samples and any gap.
use mathlib.Core.Path.{◌≡◌, refl, ap}
use mathlib.Core.List.{List, [], ◌∷◌, ◌++◌, foldl}
use Prim.Native.Nat.{ℕ, suc, ◌+◌, ◌*◌, ◌-◌, ◌/◌, ◌%◌, ◌^◌, ◌≤◌}
use native.Mathlib.Nat.{pow-suc, mul_comm, mul_assoc, add-mul, mul-sub, mul-le-mul_right}
use native.Mathlib.Omega.{arith}
use Rattle.numbers.specs.Bounds.{dist, Within}
use Rattle.numbers.specs.RoundTrip.{Average, average_step, Estimate, estimate_step, rttvar_step, Beside, SmoothedWithin, VariationWithin}
use Rattle.numbers.proofs.StepStaysAbove.{times}

dist_mul : (a b p : ℕ) → dist a b * p ≡ dist (a * p) (b * p)
dist_mul a b p = rw (add-mul, mul_comm (a - b) p, mul_comm (b - a) p, mul-sub p a b, mul-sub p b a, mul_comm p a, mul_comm p b)

-- with v = 4 a + b and |s − r| = 4 c + d
module _ (g p a b c d s r S W : ℕ) (small_b : b ≤ 3) (small-d : d ≤ 3) (apart : dist s r ≡ 4 * c + d) where
  now_p : (4 * a + b) * p ≡ 4 * (a * p) + b * p
  now_p = rw (add-mul, mul_assoc)

  next_p : (3 * a + b + c) * (p * 8) ≡ 24 * (a * p) + 8 * (b * p) + 8 * (c * p)
  next_p =
      let e : (3 * a + b + c) * p ≡ 3 * (a * p) + b * p + c * p = rw (add-mul, add-mul, mul_assoc) in
      omega (arith, times (3 * a + b + c) p 8)

  apart_p : dist (s * p) (p * r) ≡ 4 * (c * p) + d * p
  apart_p = rw (mul_comm p r, ← dist_mul, apart, add-mul, mul_assoc)

  split_step : Within g p S s → Within (g + 3) p W (4 * a + b) → Within (g + 3) (p * 8) (6 * W + 2 * dist S (p * r)) (3 * a + b + c)
  split_step near h =
      let slack-b : b * p ≤ 3 * p = mul-le-mul_right p small_b in
      let slack-d : d * p ≤ 3 * p = mul-le-mul_right p small-d in
      record {
        low = omega (arith, now_p, next_p, apart_p, add-mul g 3 p, times (g + 3) p 8);
        high = omega (arith, now_p, next_p, apart_p, add-mul g 3 p, times (g + 3) p 8);
      }

-- one more round trip
pub variation_step :
    (g n S W s v r : ℕ) →
    Within g (8 ^ n) S s →
    Within (g + 3) (8 ^ n) W v →
    Within (g + 3) (8 ^ suc n) (6 * W + 2 * dist S (8 ^ n * r)) (rttvar_step v s r)
variation_step g n S W s v r near h =
    let now : v ≡ 4 * (v / 4) + v % 4 = omega arith in
    let next : rttvar_step v s r ≡ 3 * (v / 4) + v % 4 + dist s r / 4 = omega arith in
    let apart : dist s r ≡ 4 * (dist s r / 4) + dist s r % 4 = omega arith in
    rw (pow-suc, next)
    (split_step g (8 ^ n) (v / 4) (v % 4) (dist s r / 4) (dist s r % 4) s r S W (omega arith) (omega arith) apart near (rw (← now) h))

-- the first round trip
pub variation_first : (g r : ℕ) → Within (g + 3) 8 (4 * r) (r / 2)
variation_first g r = record { low = omega arith; high = omega arith }

step_within :
    (g r : ℕ) {a : Average} {e : Estimate} →
    SmoothedWithin g a e →
    VariationWithin (g + 3) a e →
    VariationWithin (g + 3) (average_step a r) (estimate_step e r)
unfolding average_step estimate_step
step_within g r Beside.not_begun h = Beside.begun (variation_first g r)
step_within g r (Beside.begun {n} {S} {W} {s} {v} near) (Beside.begun h) = Beside.begun (variation_step g n S W s v r near h)

-- every list, from any start: SRTT near at each beginning of the list keeps RTTVAR near
pub variation_run :
    (g : ℕ) (rs : List ℕ) {a : Average} {e : Estimate} →
    ((xs ys : List ℕ) → xs ++ ys ≡ rs → SmoothedWithin g (foldl average_step a xs) (foldl estimate_step e xs)) →
    VariationWithin (g + 3) a e →
    VariationWithin (g + 3) (foldl average_step a rs) (foldl estimate_step e rs)
variation_run g [] near h = h
variation_run g (r ∷ rs) near h =
    variation_run g rs (λ xs ys e. near (r ∷ xs) ys (ap (λ (l : List ℕ). r ∷ l) e)) (step_within g r (near [] (r ∷ rs) refl) h)
