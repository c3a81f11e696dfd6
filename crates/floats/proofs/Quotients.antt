-- An integer as a float, and the quotient of two of them, each rounded once: with a divisor above 0 it is no NaN and not negative.
use Rattle.std.proofs.Common.{◌≡◌, ℕ, zero, suc, ◌+◌, ◌*◌, ◌^◌, ◌<◌, ◌≤◌, Bool, true, false, cond, not, T, eqb, pos, sym, ap, ◌∙◌, subst, true≢false, le_trans, le_of_eq, le_refl, lt_of_lt_of_le, lt_of_le_of_lt, le_of_lt, mul-le-mul_right, zero-lt-suc, mul_assoc, mul_comm, mul-pos, mul-one, mul_left_comm, lit≤, pow_pos, pow-add}
use lib.Dec.{eqb-suc-zero}
use lib.Ieee.{Float, nan, inf, fin, Format, binary64, emax, low, up, down, round, div, le, of_int, is_nan}
use lib.Ieee.Fits.{up_pos, down_pos}
use lib.Ieee.Exact.{HasValue}
use lib.Ieee.Positive.{positive, positive_of_value}
use lib.Ieee.Scale.{grid, overflow, round_val, round_same}
use Rattle.floats.proofs.Grid.{grid_le, grid_ge, held_one, held_two_to}
use Rattle.floats.proofs.Rounding.{round_number, round_not_negative}
use Rattle.floats.specs.Operations.{zero_float, rounded_quotient}

-- ---- an integer as a float, in units: finite, and above 0 where the integer is
pub integer_under : (f : Format) (n : ℕ) → n ≤ 2 ^ emax f → grid f n 1 < overflow f
integer_under f n h =
    let b = held_two_to f (emax f) (le_refl (emax f)) in
    lt_of_le_of_lt
    (grid_le f n 1 (2 ^ (emax f + low f)) (zero-lt-suc 0) b (le_trans (mul-le-mul_right (2 ^ low f) h) (le_of_eq (sym (pow-add 2 (emax f) (low f)) ∙ sym (mul-one (2 ^ (emax f + low f)))))))
    b.under

pub integer_value : (f : Format) (n : ℕ) → n ≤ 2 ^ emax f → HasValue (of_int f (pos n)) false (grid f n 1) (2 ^ low f)
unfolding of_int
integer_value f n h = round_val f n 1 (integer_under f n h)

pub integer_positive : (f : Format) (n : ℕ) → 0 < n → n ≤ 2 ^ emax f → 0 < grid f n 1
integer_positive f n p h =
    lt_of_lt_of_le (pow_pos (low f))
    (grid_ge f n 1 (2 ^ low f) (zero-lt-suc 0) (held_one f) (integer_under f n h) (le_trans (le_of_eq (mul_comm (2 ^ low f) 1)) (mul-le-mul_right (2 ^ low f) p)))

-- a u64 is far below where binary64 ends
pub word_small : (n : ℕ) → n < 2 ^ 64 → n ≤ 2 ^ emax binary64
word_small n h = le_trans (le_of_lt h) (lit≤ tt)

-- ---- a quotient of values that are not negative
pub same_fraction : (X p Y q a c b d : ℕ) → X * c ≡ a * p → Y * d ≡ b * q → X * q * (b * c) ≡ a * d * (Y * p)
same_fraction X p Y q a c b d v w =
    let l : X * q * (b * c) ≡ X * c * (b * q) = simp (mul_assoc, mul_comm, mul_left_comm) in
    let r : a * p * (Y * d) ≡ a * d * (Y * p) = simp (mul_assoc, mul_comm, mul_left_comm) in
    l ∙ ap (λ (k : ℕ). k * (b * q)) v ∙ ap (λ (k : ℕ). a * p * k) (sym w) ∙ r

-- it is the quotient of the fractions, rounded once
pub div_is : (f : Format) (x y : Float) (a c b d : ℕ) → 0 < b → 0 < c → 0 < d → HasValue x false a c → HasValue y false b d → div f x y ≡ round f false (a * d) (b * c)
unfolding div
div_is f x y a c b d B C D v w = go x y v w (positive_of_value y b d w B)
  where
    go : (x y : Float) → HasValue x false a c → HasValue y false b d → T (positive y) → div f x y ≡ round f false (a * d) (b * c)
    go nan y v w h = absurd v
    go (inf s) y v w h = absurd v
    go (fin true m e) y v w h = absurd (true≢false v.0)
    go (fin false m e) nan v w h = absurd w
    go (fin false m e) (inf t) v w h = absurd w
    go (fin false m e) (fin true n g) v w h = absurd h
    go (fin false m e) (fin false zero g) v w h = absurd h
    go (fin false m e) (fin false (suc n) g) v w h =
        ap (λ (z : Bool). cond z (cond (eqb m 0) nan (inf false)) (round f false (m * up e * down g) (suc n * up g * down e))) (eqb-suc-zero n)
        ∙ round_same f false (m * up e * down g) (suc n * up g * down e) (a * d) (b * c) (mul-pos (mul-pos (zero-lt-suc n) (up_pos g)) (down_pos e)) (mul-pos B C)
        (same_fraction (m * up e) (down e) (suc n * up g) (down g) a c b d v.1 w.1)

-- ---- the quotient of two integers
module _ (f : Format) (m : ℕ) (above : 0 < m) (small : m ≤ 2 ^ emax f) where
  divisor_positive : 0 < grid f m 1 * 2 ^ low f
  divisor_positive = mul-pos (integer_positive f m above small) (pow_pos (low f))

  quotient_is : (n : ℕ) → n ≤ 2 ^ emax f → rounded_quotient f n m ≡ round f false (grid f n 1 * 2 ^ low f) (grid f m 1 * 2 ^ low f)
  unfolding rounded_quotient
  quotient_is n h =
      div_is f (of_int f (pos n)) (of_int f (pos m)) (grid f n 1) (2 ^ low f) (grid f m 1) (2 ^ low f) (integer_positive f m above small) (pow_pos (low f)) (pow_pos (low f)) (integer_value f n h) (integer_value f m small)

  pub quotient_number : (n : ℕ) → n ≤ 2 ^ emax f → T (not (is_nan (rounded_quotient f n m)))
  quotient_number n h = subst (λ (z : Float). T (not (is_nan z))) (sym (quotient_is n h)) (round_number f false (grid f n 1 * 2 ^ low f) (grid f m 1 * 2 ^ low f))

  pub quotient_not_negative : (n : ℕ) → n ≤ 2 ^ emax f → T (le zero_float (rounded_quotient f n m))
  quotient_not_negative n h = subst (λ (z : Float). T (le zero_float z)) (sym (quotient_is n h)) (round_not_negative f (grid f n 1 * 2 ^ low f) (grid f m 1 * 2 ^ low f) divisor_positive)
