-- A smoothing step s + a * (x - s), each operation rounded once, for finite s and x that are not negative and a weight a of at most a half: the result lies
-- between s and x. Subnormals, -0.0 and the rounding of the difference are included.
use Rattle.std.proofs.Common.{◌≡◌, ℕ, zero, suc, ◌+◌, ◌-◌, ◌*◌, ◌^◌, ◌<◌, ◌≤◌, true, false, T, sym, refl, ap, ◌∙◌, subst, inl, inr, zero-le, le_trans, le_of_eq, le_refl, lt_of_le_of_lt, le_of_lt, mul-le-mul_right, zero-lt-suc, mul_assoc, mul_comm, eq-zero-or-pos, eq-or-lt_of_le, mul-le-mul_left, mul-pos, zero-mul, not-le_of_lt, le_of_mul-le-mul_right, arith, pow_pos, pow_mono}
use native.Mathlib.Nat.{two-pow-succ}
use lib.Pow.{pow-lt}
use lib.Ieee.{Float, Format, emax, low, size, add, sub, mul, le, fits}
use lib.Ieee.Fits.{add-fits}
use lib.Ieee.Digits.{size-lt, size-le, size_reaches}
use lib.Ieee.Scale.{grid, overflow, finite}
use Rattle.floats.proofs.Order.{le_transitive, le_total}
use Rattle.floats.proofs.Ranges.{Within, within_number, within_finite}
use Rattle.floats.proofs.At.{At, le_at_lem, at_le}
use Rattle.floats.proofs.Grid.{grid_le, grid_ge, grid_zero, held_power}
use Rattle.floats.proofs.Units.{InUnits, fits→units}
use Rattle.floats.proofs.Sums.{add_at, less_at, sub_at, sub_at_neg}
use Rattle.floats.proofs.Products.{mul_at}
use Rattle.floats.specs.Operations.{zero_float, weight, step}

-- ---- D units rounded, then taken an / ad times, at most a half, and rounded again, are at most D: a power of two lies between
some_digit : (D z : ℕ) → 0 < D → D < 2 ^ z → 0 < z
some_digit D zero P h = absurd (not-le_of_lt h P)
some_digit D (suc z) P h = zero-lt-suc z

before : (z : ℕ) → 0 < z → (j : ℕ) × (z ≡ suc j)
before zero h = absurd (let i : ⊥ = omega arith in i)
before (suc j) h = (j, refl)

scaled : (d p an ad u : ℕ) → d ≤ p + p → an * 2 ≤ ad → d * an * u ≤ p * (u * ad)
scaled d p an ad u h k =
    let a : d * an ≤ p * ad = le_trans (mul-le-mul_right an h) (le_trans (le_of_eq (twice p an)) (mul-le-mul_left p k)) in
    le_trans (mul-le-mul_right u a) (le_of_eq (mul_assoc p ad u ∙ ap (λ (z : ℕ). p * z) (mul_comm ad u)))
  where
    twice : (p an : ℕ) → (p + p) * an ≡ p * (an * 2)
    twice p an = ap (λ (z : ℕ). z * an) (let i : p + p ≡ p * 2 = omega arith in i) ∙ mul_assoc p 2 an ∙ ap (λ (z : ℕ). p * z) (mul_comm 2 an)

shrunk : (f : Format) (D an ad : ℕ) → 0 < ad → an * 2 ≤ ad → D < overflow f → grid f D (2 ^ low f) < overflow f → grid f (an * grid f D (2 ^ low f)) (ad * 2 ^ low f) ≤ D
shrunk f D an ad A h o r =
    subst (λ (n : ℕ). grid f n (ad * 2 ^ low f) ≤ D) (mul_comm (grid f D (2 ^ low f)) an)
    (subst (λ (n : ℕ). grid f (grid f D (2 ^ low f) * an) n ≤ D) (mul_comm (2 ^ low f) ad) (elim (eq-zero-or-pos D) [ inl z ↦ none_of z | inr p ↦ some_of p ]))
  where
    none_of : D ≡ 0 → grid f (grid f D (2 ^ low f) * an) (2 ^ low f * ad) ≤ D
    none_of z =
        let d : grid f D (2 ^ low f) ≡ 0 = ap (λ (n : ℕ). grid f n (2 ^ low f)) z ∙ grid_zero f (2 ^ low f) (pow_pos (low f)) in
        le_trans (le_of_eq (ap (λ (n : ℕ). grid f n (2 ^ low f * ad)) (ap (λ (n : ℕ). n * an) d ∙ zero-mul an) ∙ grid_zero f (2 ^ low f * ad) (mul-pos (pow_pos (low f)) A))) zero-le

    bound : (z : ℕ) → D < 2 ^ z → z ≤ low f + suc (emax f) → grid f D (2 ^ low f) ≤ 2 ^ z
    bound z l b = elim (eq-or-lt_of_le b) [
      | inl e ↦ le_of_lt (subst (λ (n : ℕ). grid f D (2 ^ low f) < 2 ^ n) (sym e) r)
      | inr k ↦ grid_le f D (2 ^ low f) (2 ^ z) (pow_pos (low f)) (held_power f z (pow-lt k)) (mul-le-mul_right (2 ^ low f) (le_of_lt l))
    ]

    some_of : 0 < D → grid f (grid f D (2 ^ low f) * an) (2 ^ low f * ad) ≤ D
    some_of P =
        let z = size D in
        let l : D < 2 ^ z = size-lt D in
        let j = before z (some_digit D z P l) in
        let q : 2 ^ j.0 ≤ D = size_reaches D j.0 (subst (λ (n : ℕ). j.0 < n) (sym j.1) (le_refl (suc j.0))) in
        let d : grid f D (2 ^ low f) ≤ 2 ^ j.0 + 2 ^ j.0 =
        le_trans (bound z l (size-le D (low f + suc (emax f)) o)) (le_of_eq (ap (λ (n : ℕ). 2 ^ n) j.1 ∙ two-pow-succ j.0)) in
        le_trans
        (grid_le f (grid f D (2 ^ low f) * an) (2 ^ low f * ad) (2 ^ j.0) (mul-pos (pow_pos (low f)) A) (held_power f j.0 (lt_of_le_of_lt q o))
        (scaled (grid f D (2 ^ low f)) (2 ^ j.0) an ad (2 ^ low f) d h))
        q

-- ---- the step, up and down
fits_in : (S X D r : ℕ) → S ≤ X → D ≡ X - S → r ≤ D → S + r ≤ X
fits_in S X D r h e k = omega arith

stays : (S X D r : ℕ) → X ≤ S → D ≡ S - X → r ≤ D → (X ≤ S - r) × (S - r ≤ S) × (r ≤ S)
stays S X D r h e k = (omega arith, omega arith, omega arith)

module _ (f : Format) (a s x : Float) (an ad : ℕ) (A : 0 < ad) (half : an * 2 ≤ ad) (v : At a false an ad) (p : InUnits f s) (q : InUnits f x) where
  step_up : T (le s x) → Within s x (step f a s x)
  unfolding step
  step_up h =
      let U = 2 ^ low f in
      let P : 0 < U = pow_pos (low f) in
      let S = p.count in
      let X = q.count in
      let D = X - S in
      let l : S ≤ X = le_of_mul-le-mul_right (le_at_lem s x S U X U P P p.at q.at h) P in
      let dx : D ≤ X = omega arith in
      let d = grid f D U in
      let d-le : d ≤ X = grid_le f D U X P q.held (mul-le-mul_right U dx) in
      let d-o : d < overflow f = lt_of_le_of_lt d-le q.held.under in
      let r = grid f (an * d) (ad * U) in
      let r-le : r ≤ D = shrunk f D an ad A half (lt_of_le_of_lt dx q.held.under) d-o in
      let w = grid f (S + r) U in
      let w_le : w ≤ X = grid_le f (S + r) U X P q.held (mul-le-mul_right U (fits_in S X D r l refl r-le)) in
      let w-o : w < overflow f = lt_of_le_of_lt w_le q.held.under in
      let w-ge : S ≤ w = grid_ge f (S + r) U S P p.held w-o (mul-le-mul_right U (let i : S ≤ S + r = omega arith in i)) in
      let move = mul f a (sub f x s) in
      let move_at : At move false r U =
      mul_at f a (sub f x s) false false an ad d U A P v (sub_at f x s X S U P q.at p.at l d-o) (lt_of_le_of_lt (le_trans r-le dx) q.held.under) in
      let sum-at : At (add f s move) false w U = add_at f s move false S r U P p.at move_at w-o in
      record {
        low = at_le s (add f s move) S U w U P P p.at sum-at (mul-le-mul_right U w-ge);
        high = at_le (add f s move) x w U X U P P sum-at q.at (mul-le-mul_right U w_le);
      }

  step_down : T (le x s) → Within x s (step f a s x)
  unfolding step
  step_down h =
      let U = 2 ^ low f in
      let P : 0 < U = pow_pos (low f) in
      let S = p.count in
      let X = q.count in
      let D = S - X in
      let l : X ≤ S = le_of_mul-le-mul_right (le_at_lem x s X U S U P P q.at p.at h) P in
      let ds : D ≤ S = omega arith in
      let d = grid f D U in
      let d-le : d ≤ S = grid_le f D U S P p.held (mul-le-mul_right U ds) in
      let d-o : d < overflow f = lt_of_le_of_lt d-le p.held.under in
      let r = grid f (an * d) (ad * U) in
      let r-le : r ≤ D = shrunk f D an ad A half (lt_of_le_of_lt ds p.held.under) d-o in
      let b = stays S X D r l refl r-le in
      let w = grid f (S - r) U in
      let w_le : w ≤ S = grid_le f (S - r) U S P p.held (mul-le-mul_right U b.1) in
      let w-o : w < overflow f = lt_of_le_of_lt w_le p.held.under in
      let w-ge : X ≤ w = grid_ge f (S - r) U X P q.held w-o (mul-le-mul_right U b.0) in
      let move = mul f a (sub f x s) in
      let move_at : At move true r U =
      mul_at f a (sub f x s) false true an ad d U A P v (sub_at_neg f x s X S U P q.at p.at l d-o) (lt_of_le_of_lt (le_trans r-le ds) p.held.under) in
      let sum-at : At (add f s move) false w U = less_at f s move false S r U P b.2 p.at move_at w-o in
      record {
        low = at_le x (add f s move) X U w U P P q.at sum-at (mul-le-mul_right U w-ge);
        high = at_le (add f s move) s w U S U P P sum-at p.at (mul-le-mul_right U w_le);
      }

-- ---- for a caller: the weight is 2 ^ -(k + 1)
pub step_fits : (f : Format) (a s x : Float) → T (fits f (step f a s x))
unfolding step
step_fits f a s x = add-fits f s (mul f a (sub f x s))

-- up to a larger sample, and down to a smaller one
pub ewma_between : (f : Format) (k : ℕ) (s x : Float) → T (fits f s) → T (fits f x) → T (le zero_float s) → T (le zero_float x) → T (finite s) → T (finite x)
    → (T (le s x) → Within s x (step f (weight k) s x)) × (T (le x s) → Within x s (step f (weight k) s x))
ewma_between f k s x fs fx ns nx ks kx =
    let p = fits→units f s fs ns ks in
    let q = fits→units f x fx nx kx in
    let h : 1 * 2 ≤ 2 ^ suc k = pow_mono (let i : 1 ≤ suc k = omega arith in i) in
    (step_up f (weight k) s x 1 (2 ^ suc k) (pow_pos (suc k)) h (inl refl, refl) p q, step_down f (weight k) s x 1 (2 ^ suc k) (pow_pos (suc k)) h (inl refl, refl) p q)

-- no step leaves a range that holds the trend and the sample
pub ewma_within : (f : Format) (k : ℕ) {lo hi s x : Float} → T (fits f s) → T (fits f x) → T (le zero_float lo) → T (finite hi) → Within lo hi s → Within lo hi x
    → Within lo hi (step f (weight k) s x)
ewma_within f k {lo} {hi} {s} {x} fs fx nl kh ws wx = elim (le_total s x (within_number ws) (within_number wx)) [
  | inl h ↦ let r = between.0 h in record { low = le_transitive lo s y ws.low r.low; high = le_transitive y x hi r.high wx.high }
  | inr h ↦ let r = between.1 h in record { low = le_transitive lo x y wx.low r.low; high = le_transitive y s hi r.high ws.high }
]
  where
    y : Float
    y = step f (weight k) s x

    above : {z : Float} → Within lo hi z → Within zero_float hi z
    above {z} w = record { low = le_transitive zero_float lo z nl w.low; high = w.high }

    between : (T (le s x) → Within s x (step f (weight k) s x)) × (T (le x s) → Within x s (step f (weight k) s x))
    between = ewma_between f k s x fs fx (above ws).low (above wx).low (within_finite tt kh (above ws)) (within_finite tt kh (above wx))
