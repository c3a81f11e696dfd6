-- A value that a format holds is a held number of the format's units, and only one value of a given size and sign fits.
use Rattle.std.proofs.Common.{◌≡◌, ℕ, zero, suc, ◌+◌, ◌-◌, ◌*◌, ◌/◌, ◌%◌, ◌^◌, ◌<◌, ◌≤◌, Bool, true, false, cond, ◌&&◌, T, eqb, ltb, leb, ℤ, pos, negsuc, sym, refl, ap, ◌∙◌, subst, inl, inr, le_of_eq, lt_of_lt_of_le, lt_of_le_of_lt, mul_assoc, mul_comm, le_antisymm, lt_of_mul-lt-mul_right, mul-lt-mul_of_pos_right, lt_of_not-le, zero-mul, mul-one, mul_right_comm, not-le_of_lt, arith, ltb→lt, leb→le, pow_pos, pow-add}
use lib.Pow.{pow-lt}
use lib.Ieee.{Float, nan, inf, fin, Format, prec, emax, low, up, down, size, le, fits, hid, top, to_bits, of_bits}
use lib.Ieee.Bits.{of_bits-to_bits}
use lib.Ieee.Digits.{back}
use lib.Ieee.Exact.{HasValue}
use lib.Ieee.Fits.{down_pos, and_l, and_r}
use lib.Ieee.Nearest.{div_mono}
use lib.Ieee.Scale.{overflow, finite}
use Rattle.floats.proofs.Fractions.{Ordered, le→ordered, none, at_none}
use Rattle.floats.proofs.At.{At, Sign}
use Rattle.floats.proofs.Grid.{Held, held_zero}
use Rattle.floats.specs.Operations.{zero_float}

-- ---- the units of m * 2 ^ e
exponent_le : (i j : ℕ) → 2 ^ i ≤ 2 ^ j → i ≤ j
exponent_le i j h = le_of_lt_suc (lt_of_not-le (λ (g : suc j ≤ i). not-le_of_lt (pow-lt g) h))
  where
    le_of_lt_suc : i < suc j → i ≤ j
    le_of_lt_suc h = omega arith

under : (f : Format) (m : ℕ) (e : ℤ) (g : ℕ) → m * up e < 2 ^ suc (emax f) * down e → m * up e * 2 ^ low f ≡ g * down e → g < overflow f
under f m e g h q =
    let u = 2 ^ low f in
    subst (λ (z : ℕ). g < z) (mul_comm (2 ^ suc (emax f)) u ∙ sym (pow-add 2 (low f) (suc (emax f))))
    (lt_of_mul-lt-mul_right (down e) (lt_of_le_of_lt (le_of_eq (sym q)) (lt_of_lt_of_le (mul-lt-mul_of_pos_right h (pow_pos (low f))) (le_of_eq (mul_right_comm (2 ^ suc (emax f)) (down e) u)))))

-- a count of units that the format holds, which is the size of m * 2 ^ e
pub record Counted (f : Format) (m : ℕ) (e : ℤ) : Type 0 where
  pub count : ℕ
  pub size_is : m * up e * 2 ^ low f ≡ count * down e
  pub held : Held f count

shifted : (f : Format) (m : ℕ) (e : ℤ) → m < 2 ^ prec f → down e ≤ 2 ^ low f → m * up e < 2 ^ suc (emax f) * down e → Counted f m e
shifted f m (pos k) a b c =
    let g = m * 2 ^ (k + low f) in
    let v : m * 2 ^ k * 2 ^ low f ≡ g * 1 = mul_assoc m (2 ^ k) (2 ^ low f) ∙ ap (λ (z : ℕ). m * z) (sym (pow-add 2 k (low f))) ∙ sym (mul-one g) in
    record { count = g; size_is = v; held = record { q = m; j = k + low f; few = a; is = refl; under = under f m (pos k) g c v } }
shifted f m (negsuc k) a b c =
    let d = low f - suc k in
    let g = m * 2 ^ d in
    let v : m * 1 * 2 ^ low f ≡ g * 2 ^ suc k =
    ap (λ (z : ℕ). z * 2 ^ low f) (mul-one m) ∙ ap (λ (z : ℕ). m * 2 ^ z) (sym (back (low f) (suc k) (exponent_le (suc k) (low f) b))) ∙ ap (λ (z : ℕ). m * z) (pow-add 2 d (suc k)) ∙ sym (mul_assoc m (2 ^ d) (2 ^ suc k)) in
    record { count = g; size_is = v; held = record { q = m; j = d; few = a; is = refl; under = under f m (negsuc k) g c v } }

-- what fits is counted
pub counted : (f : Format) (s : Bool) (m : ℕ) (e : ℤ) → T (fits f (fin s m e)) → Counted f m e
unfolding fits
counted f s zero e h = record { count = 0; size_is = ap (λ (z : ℕ). z * 2 ^ low f) (zero-mul (up e)) ∙ zero-mul (2 ^ low f) ∙ sym (zero-mul (down e)); held = held_zero f }
counted f s (suc m) e h =
    let o = eqb (suc m % 2) 1 in
    let a = ltb (suc m) (2 ^ prec f) in
    let b = leb (down e) (2 ^ low f) in
    let c = ltb (suc m * up e) (2 ^ suc (emax f) * down e) in
    let oab = and_l (o && a && b) c h in
    shifted f (suc m) e
    (ltb→lt (suc m) (2 ^ prec f) (and_r o a (and_l (o && a) b oab)))
    (leb→le (down e) (2 ^ low f) (and_r (o && a) b oab))
    (ltb→lt (suc m * up e) (2 ^ suc (emax f) * down e) (and_r (o && a && b) c h))

-- ---- a value that is not negative, in units
pub record InUnits (f : Format) (x : Float) : Type 0 where
  pub count : ℕ
  pub at : At x false count (2 ^ low f)
  pub held : Held f count

not_negative : (t : Bool) (X p : ℕ) → Ordered false 0 1 t X p → Sign t false X
not_negative false X p h = inl refl
not_negative true X p h = inr h.1

-- a finite value that fits and is not negative, -0.0 included
pub fits→units : (f : Format) (x : Float) → T (fits f x) → T (le zero_float x) → T (finite x) → InUnits f x
fits→units f nan h n k = absurd k
fits→units f (inf t) h n k = absurd k
fits→units f (fin t m e) h n k =
    let c = counted f t m e h in
    record { count = c.count; at = (sign_at (not_negative t (m * up e) (down e) (le→ordered 0 (pos 0) m e false t n)) c.size_is, c.size_is); held = c.held }
  where
    sign_at : {g : ℕ} → Sign t false (m * up e) → m * up e * 2 ^ low f ≡ g * down e → Sign t false g
    sign_at {g} (inl p) q = inl p
    sign_at {g} (inr z) q = inr (none g (down e) (down_pos e) (sym q ∙ at_none (2 ^ low f) z))

-- ---- one value of a size and sign
same_quotient : (x p a c : ℕ) → 0 < p → 0 < c → x * c ≡ a * p → x / p ≡ a / c
same_quotient x p a c P C e = le_antisymm (div_mono x p a c P C (le_of_eq e)) (div_mono a c x p C P (le_of_eq (sym e)))

module _ (f : Format) (s : Bool) (a c : ℕ) (C : 0 < c) where
  -- the bits of ±n units
  pattern : ℕ → ℕ
  pattern n = let k = size n - prec f in cond s (top f) 0 + k * hid f + n / 2 ^ k

  bits_of : (x : Float) → HasValue x s a c → to_bits f x ≡ pattern (a * 2 ^ low f / c)
  unfolding to_bits pattern
  bits_of nan v = absurd v
  bits_of (inf t) v = absurd v
  bits_of (fin t m e) v =
      let u = 2 ^ low f in
      let n = m * up e * u / down e in
      let k = size n - prec f in
      ap (λ (t : Bool). cond t (top f) 0 + k * hid f + n / 2 ^ k) v.0
      ∙ ap pattern (same_quotient (m * up e * u) (down e) (a * u) c (down_pos e) C (mul_right_comm (m * up e) u c ∙ ap (λ (z : ℕ). z * u) v.1 ∙ mul_right_comm a (down e) u))

  pub fits_unique : (x y : Float) → T (fits f x) → T (fits f y) → HasValue x s a c → HasValue y s a c → x ≡ y
  fits_unique x y p q v w = sym (of_bits-to_bits f x p) ∙ ap (of_bits f) (bits_of x v ∙ sym (bits_of y w)) ∙ of_bits-to_bits f y q
