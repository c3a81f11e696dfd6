-- A fraction a / 2 ^ k whose numerator has few digits is held by the format: rounding does not carry a fraction past it.
use Rattle.std.proofs.Common.{◌≡◌, ℕ, suc, ◌-◌, ◌*◌, ◌^◌, ◌<◌, ◌≤◌, sym, refl, ap, ◌∙◌, le_trans, le_of_eq, lt_of_lt_of_le, lt_of_le_of_lt, mul-le-mul_right, mul_assoc, mul_comm, mul-le-mul_left, mul-lt-mul_of_pos_right, mul_right_comm, le_of_mul-le-mul_right, arith, pow_pos, pow_mono, pow-add}
use lib.Ieee.{Format, prec, emax, low}
use lib.Ieee.Fits.{reach}
use lib.Ieee.Digits.{back}
use lib.Ieee.Scale.{grid, overflow}
use Rattle.floats.proofs.Grid.{Held, grid_le, grid_ge}

module _ (f : Format) (a k : ℕ) (few : a < 2 ^ prec f) (deep : k ≤ low f) where
  -- in units of the format's smallest value
  pub dyadic : ℕ
  dyadic = a * 2 ^ (low f - k)

  pub dyadic_is : dyadic * 2 ^ k ≡ a * 2 ^ low f
  unfolding dyadic
  dyadic_is = mul_assoc a (2 ^ (low f - k)) (2 ^ k) ∙ ap (λ (z : ℕ). a * z) (sym (pow-add 2 (low f - k) k) ∙ ap (λ (z : ℕ). 2 ^ z) (back (low f) k deep))

  pub dyadic_held : Held f dyadic
  unfolding dyadic
  dyadic_held = record {
    q = a;
    j = low f - k;
    few = few;
    is = refl;
    under =
        lt_of_le_of_lt (mul-le-mul_left a (pow_mono (short (low f) k)))
        (lt_of_lt_of_le (mul-lt-mul_of_pos_right few (pow_pos (low f))) (le_trans (mul-le-mul_right (2 ^ low f) (pow_mono (reach f))) (le_of_eq (mul_comm (2 ^ suc (emax f)) (2 ^ low f) ∙ sym (pow-add 2 (low f) (suc (emax f)))))));
  }
    where
      short : (l k : ℕ) → l - k ≤ l
      short l k = omega arith

  cross : (den : ℕ) → dyadic * den * 2 ^ k ≡ a * den * 2 ^ low f
  cross den = mul_right_comm dyadic den (2 ^ k) ∙ ap (λ (z : ℕ). z * den) dyadic_is ∙ mul_right_comm a (2 ^ low f) den

  -- a fraction that is no more than it, rounded
  pub dyadic_ge : (num den : ℕ) → 0 < den → num * 2 ^ k ≤ a * den → grid f num den ≤ dyadic
  dyadic_ge num den D h =
      grid_le f num den dyadic D dyadic_held
      (le_of_mul-le-mul_right (le_trans (le_of_eq (mul_right_comm num (2 ^ low f) (2 ^ k))) (le_trans (mul-le-mul_right (2 ^ low f) h) (le_of_eq (sym (cross den))))) (pow_pos k))

  -- and one that is no less
  pub dyadic_le : (num den : ℕ) → 0 < den → grid f num den < overflow f → a * den ≤ num * 2 ^ k → dyadic ≤ grid f num den
  dyadic_le num den D o h =
      grid_ge f num den dyadic D dyadic_held o
      (le_of_mul-le-mul_right (le_trans (le_of_eq (cross den)) (le_trans (mul-le-mul_right (2 ^ low f) h) (le_of_eq (mul_right_comm num (2 ^ k) (2 ^ low f))))) (pow_pos k))
