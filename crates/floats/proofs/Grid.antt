-- Rounding in whole numbers. `grid f a c` is a / c rounded to the format f, in units of f's smallest value 2 ^ -low. It keeps the order of fractions,
-- and what the format holds (`Held`) it leaves as it is.
use Rattle.std.proofs.Common.{◌≡◌, ℕ, suc, ◌+◌, ◌*◌, ◌^◌, ◌<◌, ◌≤◌, Bool, true, false, cond, T, ltb, sym, refl, ap, ◌∙◌, subst, inl, zero-le, one-mul, zero-add, zero-mul, le_of_mul-le-mul_right, arith, lit<, ltb→lt, pow_pos}
use native.Mathlib.Nat.{eq_of_mul-eq-mul_right}
use lib.Pow.{pow-lt}
use lib.Ieee.{Float, nan, inf, fin, Format, binary32, binary64, prec, emax, low, odd, units, round, le}
use lib.Ieee.Fits.{round_is}
use lib.Ieee.Exact.{HasValue, round_exact, units_val}
use lib.Ieee.Order.{drop, kept, round_mono}
use lib.Ieee.Scale.{grid, overflow, finite, round_val, round_under}
use Rattle.floats.proofs.At.{At, Sign, sign_of, value→at, same_size, le_at_lem}

-- a number of units that a format holds: q digits and j zeros after them
pub record Held (f : Format) (g : ℕ) : Type 0 where
  pub q : ℕ
  pub j : ℕ
  pub few : q < 2 ^ prec f
  pub is : q * 2 ^ j ≡ g
  pub under : g < overflow f

has_value_finite : (x : Float) (s : Bool) (a c : ℕ) → HasValue x s a c → T (finite x)
has_value_finite nan s a c h = h
has_value_finite (inf t) s a c h = h
has_value_finite (fin t m e) s a c h = tt

-- a held number of units rounds to its own value, with either sign
pub held_value : (f : Format) (s : Bool) (num den g : ℕ) → 0 < den → Held f g → num * 2 ^ low f ≡ g * den → HasValue (round f s num den) s num den
held_value f s num den g D h e = round_exact f s num den h.q h.j D h.few (subst (λ (z : ℕ). z < overflow f) (sym h.is) h.under) (e ∙ ap (λ (z : ℕ). z * den) (sym h.is))

-- the same in units
pub grid_held : (f : Format) (num den g : ℕ) → 0 < den → Held f g → num * 2 ^ low f ≡ g * den → grid f num den ≡ g
grid_held f num den g D h e =
    let x = round f false num den in
    let v : HasValue x false num den = held_value f false num den g D h e in
    let w : HasValue x false (grid f num den) (2 ^ low f) = round_val f num den (round_under f num den (has_value_finite x false num den v)) in
    let r : num * 2 ^ low f ≡ grid f num den * den =
    same_size x false false num den (grid f num den) (2 ^ low f) (value→at x false false num den (inl refl) v) (value→at x false false (grid f num den) (2 ^ low f) (inl refl) w) in
    eq_of_mul-eq-mul_right den D (grid f num den) g (sym r ∙ e)

-- ---- the order
inf_not_below : (y : Float) (b d : ℕ) → HasValue y false b d → T (le (inf false) y) → ⊥
unfolding le
inf_not_below nan b d v h = v
inf_not_below (inf t) b d v h = v
inf_not_below (fin t m e) b d v h = h

under_of_le : (f : Format) (q k : ℕ) (y : Float) (b d : ℕ) → HasValue y false b d → T (le (units f false q k) y) → q * 2 ^ k < overflow f
unfolding units
under_of_le f q k y b d v = go (ltb (q * 2 ^ k) (overflow f)) (ltb→lt (q * 2 ^ k) (overflow f))
  where
    go : (t : Bool) → (T t → q * 2 ^ k < overflow f) → T (le (cond t (odd (suc (prec f)) false q k (low f)) (inf false)) y) → q * 2 ^ k < overflow f
    go true h l = h tt
    go false h l = absurd (inf_not_below y b d v l)

-- a larger fraction rounds to no fewer units
pub grid_mono : (f : Format) (a c b d : ℕ) → 0 < c → 0 < d → grid f b d < overflow f → a * d ≤ b * c → grid f a c ≤ grid f b d
grid_mono f a c b d C D o h =
    let u = 2 ^ low f in
    let x = round f false a c in
    let y = round f false b d in
    let v : HasValue y false (grid f b d) u = round_val f b d o in
    let r : T (le x y) = round_mono f a c b d C D h in
    let o' : grid f a c < overflow f = under_of_le f (kept (prec f) (a * u) c) (drop (prec f) (a * u) c) y (grid f b d) u v (subst (λ (z : Float). T (le z y)) (round_is f false a c) r) in
    le_of_mul-le-mul_right
    (le_at_lem x y (grid f a c) u (grid f b d) u (pow_pos (low f)) (pow_pos (low f)) (value→at x false false (grid f a c) u (inl refl) (round_val f a c o')) (value→at y false false (grid f b d) u (inl refl) v) r)
    (pow_pos (low f))

-- a fraction up to a held number rounds to no more than that, and one from it on to no less
pub grid_le : (f : Format) (a c g : ℕ) → 0 < c → Held f g → a * 2 ^ low f ≤ g * c → grid f a c ≤ g
grid_le f a c g C h l =
    let e : grid f g (2 ^ low f) ≡ g = grid_held f g (2 ^ low f) g (pow_pos (low f)) h refl in
    subst (λ (z : ℕ). grid f a c ≤ z) e (grid_mono f a c g (2 ^ low f) C (pow_pos (low f)) (subst (λ (z : ℕ). z < overflow f) (sym e) h.under) l)

pub grid_ge : (f : Format) (a c g : ℕ) → 0 < c → Held f g → grid f a c < overflow f → g * c ≤ a * 2 ^ low f → g ≤ grid f a c
grid_ge f a c g C h o l =
    let e : grid f g (2 ^ low f) ≡ g = grid_held f g (2 ^ low f) g (pow_pos (low f)) h refl in
    subst (λ (z : ℕ). z ≤ grid f a c) e (grid_mono f g (2 ^ low f) a c (pow_pos (low f)) C o l)

-- ---- held: 0, the powers of two, and so 1
one_digit : (f : Format) → 1 < 2 ^ prec f
one_digit binary32 = lit< tt
one_digit binary64 = lit< tt

pub held_zero : (f : Format) → Held f 0
held_zero f = record { q = 0; j = 0; few = pow_pos (prec f); is = refl; under = pow_pos (low f + suc (emax f)) }

-- a power of two of units
pub held_power : (f : Format) (k : ℕ) → 2 ^ k < overflow f → Held f (2 ^ k)
held_power f k h = record { q = 1; j = k; few = one_digit f; is = one-mul (2 ^ k); under = h }

-- the value 2 ^ k
pub held_two_to : (f : Format) (k : ℕ) → k ≤ emax f → Held f (2 ^ (k + low f))
held_two_to f k h = held_power f (k + low f) (pow-lt (wide k (emax f) (low f) h))
  where
    wide : (k e l : ℕ) → k ≤ e → k + l < l + suc e
    wide k e l h = omega arith

-- the value 1
pub held_one : (f : Format) → Held f (2 ^ low f)
held_one f = subst (λ (n : ℕ). Held f (2 ^ n)) (zero-add (low f)) (held_two_to f 0 zero-le)

pub grid_zero : (f : Format) (c : ℕ) → 0 < c → grid f 0 c ≡ 0
grid_zero f c C = grid_held f 0 c 0 C (held_zero f) (zero-mul (2 ^ low f) ∙ sym (zero-mul c))

-- ---- one rounding, in units
pub round_at : (f : Format) (t s : Bool) (a c : ℕ) → 0 < c → Sign t s a → grid f a c < overflow f → At (round f t a c) s (grid f a c) (2 ^ low f)
round_at f t s a c C g o =
    subst (λ (z : Float). At z s (grid f a c) (2 ^ low f)) (sym (round_is f t a c))
    (value→at (units f t (kept (prec f) (a * 2 ^ low f) c) (drop (prec f) (a * 2 ^ low f) c)) t s (grid f a c) (2 ^ low f)
    (sign_of (λ (z : a ≡ 0). ap (λ (n : ℕ). grid f n c) z ∙ grid_zero f c C) g)
    (units_val f t (kept (prec f) (a * 2 ^ low f) c) (drop (prec f) (a * 2 ^ low f) c) o))
