-- A float as an integer: cut toward zero, an end of the range where it is beyond it, and 0 for a NaN. Clamping it to the range of a signed one first changes nothing.
use Rattle.std.proofs.Common.{◌≡◌, ℕ, ◌-◌, ◌*◌, ◌/◌, ◌^◌, ◌<◌, ◌≤◌, min, Bool, true, false, cond, T, ℤ, pos, neg_ℤ, sym, refl, ap, ◌∙◌, subst, inl, inr, true≢false, le_trans, le_of_eq, div-lt_iff_lt-mul, one-mul, le-div_iff_mul-le, mul-one, arith, ltb→lt, pow_pos, pow_mono}
use native.Mathlib.Nat.{zero-div, zero-min}
use lib.Ieee.{Float, nan, inf, fin, up, down, lt, le, to_signed, to_unsigned, is_nan}
use lib.Ieee.Fits.{down_pos}
use lib.Ieee.Nearest.{div_same}
use Rattle.floats.proofs.Fractions.{le→ordered}
use Rattle.floats.proofs.At.{At}
use Rattle.floats.proofs.Order.{le_reflexive, lt→le}
use Rattle.floats.specs.Operations.{clamped}

-- the ends of the range, 2 ^ h - 1 and -2 ^ h
abbrev pub greatest : ℕ → Float
greatest h = fin false (2 ^ h - 1) (pos 0)

abbrev pub least : ℕ → Float
least h = fin true 1 (pos h)

-- ---- in whole numbers
capped : (v c : ℕ) → c ≤ v → min v c ≡ c
capped v c h = omega arith

uncapped : (v c : ℕ) → v < c → (min v c ≡ v) × (min v (c - 1) ≡ v)
uncapped v c h = (omega arith, omega arith)

reaches : (k Y q : ℕ) → 0 < q → k * q ≤ Y * 1 → k ≤ Y / q
reaches k Y q Q h = (le-div_iff_mul-le Q).1 (le_trans h (le_of_eq (mul-one Y)))

-- ---- to a signed integer of h bits and a sign
pub cast_nan : (h : ℕ) (x : Float) → T (is_nan x) → to_signed h x ≡ pos 0
unfolding to_signed is_nan
cast_nan h nan t = refl
cast_nan h (inf s) t = absurd t
cast_nan h (fin s m e) t = absurd t

-- in range it is the whole part, with the sign
pub cast_cuts : (h : ℕ) (s : Bool) (m : ℕ) (e : ℤ) → m * up e / down e < 2 ^ h → to_signed h (fin s m e) ≡ cond s (neg_ℤ (pos (m * up e / down e))) (pos (m * up e / down e))
unfolding to_signed
cast_cuts h true m e l = ap (λ (v : ℕ). neg_ℤ (pos v)) (uncapped (m * up e / down e) (2 ^ h) l).0
cast_cuts h false m e l = ap pos (uncapped (m * up e / down e) (2 ^ h) l).1

-- from the greatest on it is the greatest
pub cast_high : (h : ℕ) (x : Float) → T (le (greatest h) x) → to_signed h x ≡ pos (2 ^ h - 1)
unfolding to_signed le
cast_high h nan l = absurd l
cast_high h (inf true) l = absurd l
cast_high h (inf false) l = refl
cast_high h (fin true n d) l =
    let k = le→ordered (2 ^ h - 1) (pos 0) n d false true l in
    ap (λ (v : ℕ). neg_ℤ (pos (min v (2 ^ h)))) (ap (λ (v : ℕ). v / down d) k.1 ∙ zero-div (down d)) ∙ ap (λ (v : ℕ). neg_ℤ (pos v)) (zero-min (2 ^ h)) ∙ ap pos (sym k.0 ∙ mul-one (2 ^ h - 1))
cast_high h (fin false n d) l =
    ap pos (capped (n * up d / down d) (2 ^ h - 1)
    (reaches (2 ^ h - 1) (n * up d) (down d) (down_pos d) (subst (λ (z : ℕ). z * down d ≤ n * up d * 1) (mul-one (2 ^ h - 1)) (le→ordered (2 ^ h - 1) (pos 0) n d false false l))))

-- from the least down it is the least
pub cast_low : (h : ℕ) (x : Float) → T (le x (least h)) → to_signed h x ≡ neg_ℤ (pos (2 ^ h))
unfolding to_signed le
cast_low h nan l = absurd l
cast_low h (inf true) l = refl
cast_low h (inf false) l = absurd l
cast_low h (fin false n d) l = absurd (some (2 ^ h) (pow_pos h) (sym (one-mul (2 ^ h)) ∙ (le→ordered n d 1 (pos h) false true l).1))
  where
    some : (k : ℕ) → 0 < k → k ≡ 0 → ⊥
    some k h e = omega arith
cast_low h (fin true n d) l =
    ap (λ (v : ℕ). neg_ℤ (pos v)) (capped (n * up d / down d) (2 ^ h)
    (reaches (2 ^ h) (n * up d) (down d) (down_pos d) (subst (λ (z : ℕ). z * down d ≤ n * up d * 1) (one-mul (2 ^ h)) (le→ordered n d 1 (pos h) true true l))))

-- Rust's `x.clamp(f64::from(i32::MIN), f64::from(i32::MAX)) as i32` is `x as i32`
pub cast_clamped : (h : ℕ) (x : Float) → to_signed h (clamped (least h) (greatest h) x) ≡ to_signed h x
unfolding clamped
cast_clamped h x = go (lt x (least h)) (lt (greatest h) x) (λ (t : T (lt x (least h))). cast_low h x (lt→le x (least h) t)) (λ (t : T (lt (greatest h) x)). cast_high h x (lt→le (greatest h) x t))
  where
    go : (a b : Bool) → (T a → to_signed h x ≡ neg_ℤ (pos (2 ^ h))) → (T b → to_signed h x ≡ pos (2 ^ h - 1)) → to_signed h (cond a (least h) (cond b (greatest h) x)) ≡ to_signed h x
    go true b l r = cast_low h (least h) (le_reflexive (least h) (unfold is_nan in tt)) ∙ sym (l tt)
    go false true l r = cast_high h (greatest h) (le_reflexive (greatest h) (unfold is_nan in tt)) ∙ sym (r tt)
    go false false l r = refl

-- ---- to an unsigned integer of w bits: a value that is not negative is cut, and at most the greatest
pub cast_unsigned : (w a c : ℕ) (x : Float) → 0 < c → At x false a c → to_unsigned w x ≡ min (a / c) (2 ^ w - 1)
unfolding to_unsigned
cast_unsigned w a c nan C h = absurd h
cast_unsigned w a c (inf s) C h = absurd h
cast_unsigned w a c (fin false m e) C h = ap (λ (z : ℕ). min z (2 ^ w - 1)) (div_same (m * up e) (down e) a c (down_pos e) C h.1)
cast_unsigned w a c (fin true m e) C (inl p, h) = absurd (true≢false p)
cast_unsigned w a c (fin true m e) C (inr z, h) = none (a / c) (2 ^ w - 1) (ap (λ (n : ℕ). n / c) z ∙ zero-div c)
  where
    none : (a b : ℕ) → a ≡ 0 → 0 ≡ min a b
    none a b e = omega arith
