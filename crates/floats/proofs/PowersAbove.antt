-- Values from 0 to a power of two, -0.0 included: what a sum, a product, and a quotient by a number that is no smaller than a power of two stay below.
use Rattle.std.proofs.Common.{◌≡◌, ℕ, zero, suc, ◌+◌, ◌*◌, ◌^◌, ◌<◌, ◌≤◌, Bool, true, false, cond, T, eqb, sym, refl, ap, ◌∙◌, subst, inl, zero-le, le_trans, le_of_eq, lt_of_lt_of_le, lt_of_le_of_lt, mul-le-mul_right, zero-lt-suc, mul_assoc, mul_comm, add-mul, mul-le-mul_left, mul-pos, one-mul, pow-suc, zero-mul, mul-one, mul_right_comm, arith, pow_pos, pow-add}
use native.Mathlib.Nat.{mul-mul-mul_comm}
use lib.Dec.{eqb-suc-zero}
use lib.Ieee.{Float, nan, inf, fin, Format, up, down, emax, low, unlike, round, add, mul, div}
use lib.Ieee.Exact.{HasValue}
use lib.Ieee.Fits.{up_pos, down_pos}
use lib.Ieee.Positive.{num, den, den_pos, positive, positive_of_value}
use lib.Ieee.Scale.{grid, overflow}
use Rattle.floats.proofs.At.{At, sign_of, empty, own_at, le_at_lem, at_le}
use Rattle.floats.proofs.Fractions.{at_none}
use Rattle.floats.proofs.Grid.{grid_le, held_two_to}
use Rattle.floats.proofs.Products.{mul_at}
use Rattle.floats.proofs.Quotients.{same_fraction}
use Rattle.floats.proofs.Ranges.{Within, within_finite}
use Rattle.floats.proofs.Rounding.{Rounds, rescale, rounds_at}
use Rattle.floats.proofs.Sums.{add_at}
use Rattle.floats.specs.Operations.{zero_float, float}

-- from 0 to 2^k
abbrev pub Below : ℕ → Float → Type 0
Below k x = Within zero_float (float 1 k) x

-- ---- by a fraction
-- the size a/c is at most 2^k
pub fraction_below : (x : Float) (a c k : ℕ) → 0 < c → At x false a c → a ≤ 2 ^ k * c → Below k x
fraction_below x a c k C v h =
    record {
      low = at_le zero_float x 0 1 a c (zero-lt-suc 0) C (inl refl, refl) v (le_trans (le_of_eq (zero-mul c)) zero-le);
      high = at_le x (float 1 k) a c (2 ^ k) 1 C (zero-lt-suc 0) v (inl refl, ap (λ (z : ℕ). z * 1) (one-mul (2 ^ k))) (le_trans (le_of_eq (mul-one a)) h);
    }

-- its own fraction
pub below_at : {k : ℕ} {x : Float} → Below k x → At x false (num x) (den x)
below_at {k} {x} w = own_at x w.low (within_finite tt tt w)

pub below_size : {k : ℕ} {x : Float} → Below k x → num x ≤ 2 ^ k * den x
below_size {k} {x} w =
    le_trans (le_of_eq (sym (mul-one (num x))))
    (le_at_lem x (float 1 k) (num x) (den x) (2 ^ k) 1 (den_pos x) (zero-lt-suc 0) (below_at w) (inl refl, ap (λ (z : ℕ). z * 1) (one-mul (2 ^ k))) w.high)

-- a/c rounded once: at most 2^k of units where a/c is at most 2^k
pub units : (f : Format) (a c k : ℕ) → 0 < c → k ≤ emax f → a ≤ 2 ^ k * c → grid f a c ≤ 2 ^ (k + low f)
units f a c k C e h =
    grid_le f a c (2 ^ (k + low f)) C (held_two_to f k e)
    (le_trans (mul-le-mul_right (2 ^ low f) h) (le_of_eq (mul_right_comm (2 ^ k) c (2 ^ low f) ∙ ap (λ (z : ℕ). z * c) (sym (pow-add 2 k (low f))))))

under : (f : Format) (a c k : ℕ) → 0 < c → k ≤ emax f → a ≤ 2 ^ k * c → grid f a c < overflow f
under f a c k C e h = lt_of_le_of_lt (units f a c k C e h) (held_two_to f k e).under

rounded_below : (f : Format) (x : Float) (a c k : ℕ) → 0 < c → k ≤ emax f → a ≤ 2 ^ k * c → At x false (grid f a c) (2 ^ low f) → Below k x
rounded_below f x a c k C e h v = fraction_below x (grid f a c) (2 ^ low f) k (pow_pos (low f)) v (le_trans (units f a c k C e h) (le_of_eq (pow-add 2 k (low f))))

-- ---- a sum
-- x by another denominator
at_over : (x : Float) (a c d : ℕ) → At x false a c → At x false (a * d) (c * d)
at_over nan a c d v = v
at_over (inf t) a c d v = v
at_over (fin t m e) a c d v =
    (sign_of (at_none d) v.0, sym (mul_assoc (m * up e) c d) ∙ ap (λ (z : ℕ). z * d) v.1 ∙ mul_right_comm a (down e) d)

pub sum_below : (f : Format) (k : ℕ) {x y : Float} → suc k ≤ emax f → Below k x → Below k y → Below (suc k) (add f x y)
sum_below f k {x} {y} e v w =
    let p = den x in
    let q = den y in
    let c = p * q in
    let a = num x * q in
    let b = num y * p in
    let C = mul-pos (den_pos x) (den_pos y) in
    let ha : a ≤ 2 ^ k * c = le_trans (mul-le-mul_right q (below_size v)) (le_of_eq (mul_assoc (2 ^ k) p q)) in
    let hb : b ≤ 2 ^ k * c = le_trans (mul-le-mul_right p (below_size w)) (le_of_eq (mul_assoc (2 ^ k) q p ∙ ap (λ (z : ℕ). 2 ^ k * z) (mul_comm q p))) in
    let twice : 2 ^ suc k * c ≡ 2 ^ k * c + 2 ^ k * c = ap (λ (z : ℕ). z * c) (pow-suc 2 k) ∙ double (2 ^ k) c in
    let h : a + b ≤ 2 ^ suc k * c = omega (arith, ha, hb, twice) in
    let wy : At y false b c = subst (λ (z : ℕ). At y false b z) (mul_comm q p) (at_over y (num y) q p (below_at w)) in
    rounded_below f (add f x y) (a + b) c (suc k) C e h (add_at f x y false a b c C (at_over x (num x) p q (below_at v)) wy (under f (a + b) c (suc k) C e h))
  where
    double : (n c : ℕ) → n * 2 * c ≡ n * c + n * c
    double n c = ap (λ (z : ℕ). z * c) (twofold n) ∙ add-mul n n c
      where
        twofold : (n : ℕ) → n * 2 ≡ n + n
        twofold n = omega arith

-- ---- a product
pub product_below : (f : Format) (j k : ℕ) {x y : Float} → j + k ≤ emax f → Below j x → Below k y → Below (j + k) (mul f x y)
product_below f j k {x} {y} e v w =
    let a = num x * num y in
    let c = den x * den y in
    let C = mul-pos (den_pos x) (den_pos y) in
    let h : a ≤ 2 ^ (j + k) * c =
    le_trans (mul-le-mul_right (num y) (below_size v))
    (le_trans (mul-le-mul_left (2 ^ j * den x) (below_size w))
    (le_of_eq (mul-mul-mul_comm (2 ^ j) (den x) (2 ^ k) (den y) ∙ ap (λ (z : ℕ). z * c) (sym (pow-add 2 j k))))) in
    rounded_below f (mul f x y) a c (j + k) C e h (mul_at f x y false false (num x) (den x) (num y) (den y) (den_pos x) (den_pos y) (below_at v) (below_at w) (under f a c (j + k) C e h))

-- ---- a quotient
-- x by a number b/d above 0, rounded once
quotient_rounds : (f : Format) (x y : Float) (a c b d : ℕ) → 0 < b → 0 < c → 0 < d → At x false a c → HasValue y false b d → Rounds f (div f x y) false (a * d) (b * c)
unfolding div Rounds
quotient_rounds f x y a c b d B C D v w = go x y v w (positive_of_value y b d w B)
  where
    plain : (t : Bool) → unlike t false ≡ t
    plain true = refl
    plain false = refl

    go : (x y : Float) → At x false a c → HasValue y false b d → T (positive y) → Rounds f (div f x y) false (a * d) (b * c)
    go nan y v w h = absurd v
    go (inf s) y v w h = absurd v
    go (fin t m e) nan v w h = absurd w
    go (fin t m e) (inf u) v w h = absurd w
    go (fin t m e) (fin true n g) v w h = absurd h
    go (fin t m e) (fin false zero g) v w h = absurd h
    go (fin t m e) (fin false (suc n) g) v w h =
        let X = m * up e in
        let Y = suc n * up g in
        rescale f (div f (fin t m e) (fin false (suc n) g)) false (X * down g) (Y * down e) (a * d) (b * c) (mul-pos (mul-pos (zero-lt-suc n) (up_pos g)) (down_pos e)) (mul-pos B C)
        (same_fraction X (down e) Y (down g) a c b d v.1 w.1) (
          t,
          ap (λ (z : Bool). cond z (cond (eqb m 0) nan (inf (unlike t false))) (round f (unlike t false) (X * down g) (Y * down e))) (eqb-suc-zero n) ∙ ap (λ (s : Bool). round f s (X * down g) (Y * down e)) (plain t),
          sign_of (λ (z : a ≡ 0). at_none (down g) (empty X (down e) a c C v.1 z)) v.0,
        )

pub quotient_below : (f : Format) (j k b : ℕ) {x : Float} (y : Float) → k ≤ emax f → 2 ^ j ≤ b → HasValue y false b 1 → Below (j + k) x → Below k (div f x y)
quotient_below f j k b {x} y e least value w =
    let a = num x * 1 in
    let c = b * den x in
    let B : 0 < b = lt_of_lt_of_le (pow_pos j) least in
    let C = mul-pos B (den_pos x) in
    let h : a ≤ 2 ^ k * c =
    le_trans (le_of_eq (mul-one (num x)))
    (le_trans (below_size w)
    (le_trans (le_of_eq (ap (λ (z : ℕ). z * den x) (pow-add 2 j k ∙ mul_comm (2 ^ j) (2 ^ k)) ∙ mul_assoc (2 ^ k) (2 ^ j) (den x)))
    (mul-le-mul_left (2 ^ k) (mul-le-mul_right (den x) least)))) in
    rounded_below f (div f x y) a c k C e h
    (rounds_at f (div f x y) false a c C (quotient_rounds f x y (num x) (den x) b 1 B (den_pos x) (zero-lt-suc 0) (below_at w) value) (under f a c k C e h))
