-- The ETX of two ratios, -0.0 included, is from 1 to 100, and does not rise where a ratio rises.
use Rattle.std.proofs.Common.{◌≡◌, ℕ, zero, suc, ◌*◌, ◌<◌, Bool, true, false, cond, not, T, pos, sym, ap, ◌∙◌, subst, inl, inr, le_trans, le_of_eq, mul_comm, eq-zero-or-pos, mul-pos, one-mul, zero-mul, mul-one, ltb→lt, lt→ltb, T_not}
use lib.Dec.{eqb-suc-zero}
use lib.Ieee.{Float, nan, inf, fin, Format, binary64, up, down, round, mul, div, le, is_nan}
use lib.Ieee.Fits.{up_pos}
use lib.Ieee.Order.{round_mono}
use lib.Ieee.Positive.{num, den, positive, le→cross}
use lib.Ieee.Scale.{finite}
use Rattle.floats.proofs.Fractions.{ordered→le}
use Rattle.floats.proofs.Order.{le_reflexive, le_transitive}
use Rattle.floats.proofs.Ranges.{Within, within_finite}
use Rattle.floats.proofs.Rounding.{round_number}
use Rattle.floats.proofs.Products.{mul_commutes}
use Rattle.floats.proofs.Clamping.{clamp_within, clamp_monotone}
use Rattle.floats.specs.Operations.{zero_float, one_float, clamped}
use Rattle.refusals.specs.Ranges.{max_etx}
use Rattle.algorithms.specs.Etx.{etx_of}
use Rattle.floats.proofs.Ratios.{Ratio, product_ratio, product_monotone}

ends : T (le one_float max_etx)
unfolding le
ends = tt

-- ---- 1 / p of a finite p above 0
above_zero : (p : Float) → T (finite p) → T (not (le p zero_float)) → T (positive p)
above_zero nan k h = k
above_zero (inf s) k h = absurd k
above_zero (fin true m e) k h = absurd (T_not (le (fin true m e) zero_float) h (ordered→le m e 0 (pos 0) true false tt))
above_zero (fin false m e) k h = elim (eq-zero-or-pos m) [
  | inl z ↦ absurd (T_not (le (fin false m e) zero_float) h (ordered→le m e 0 (pos 0) false false (le_of_eq (mul-one (m * up e) ∙ ap (λ (n : ℕ). n * up e) z ∙ zero-mul (up e) ∙ sym (zero-mul (down e))))))
  | inr p ↦ lt→ltb 0 m p
]

inverse_is : (f : Format) (p : Float) → T (positive p) → div f one_float p ≡ round f false (den p) (num p)
unfolding div
inverse_is f nan h = absurd h
inverse_is f (inf s) h = absurd h
inverse_is f (fin true m e) h = absurd h
inverse_is f (fin false zero e) h = absurd h
inverse_is f (fin false (suc m) e) h =
    ap (λ (b : Bool). cond b (cond false nan (inf false)) (round f false (1 * 1 * down e) (suc m * up e * 1))) (eqb-suc-zero m)
    ∙ ap (λ (n : ℕ). round f false n (suc m * up e * 1)) (one-mul (down e))
    ∙ ap (λ (n : ℕ). round f false (down e) n) (mul-one (suc m * up e))

num_above : (x : Float) → T (positive x) → 0 < num x
num_above nan p = absurd p
num_above (inf s) p = absurd p
num_above (fin true m e) p = absurd p
num_above (fin false m e) p = mul-pos (ltb→lt 0 m p) (up_pos e)

inverse_number : (f : Format) (p : Float) → T (positive p) → T (not (is_nan (div f one_float p)))
inverse_number f p h = subst (λ (z : Float). T (not (is_nan z))) (sym (inverse_is f p h)) (round_number f false (den p) (num p))

inverse_falls : (f : Format) (p q : Float) → T (positive p) → T (positive q) → T (le p q) → T (le (div f one_float q) (div f one_float p))
inverse_falls f p q hp hq h =
    subst (λ (z : Float). T (le z (div f one_float p))) (sym (inverse_is f q hq))
    (subst (λ (z : Float). T (le (round f false (den q) (num q)) z)) (sym (inverse_is f p hp))
    (round_mono f (den q) (num q) (den p) (num p) (num_above q hq) (num_above p hp)
    (le_trans (le_of_eq (mul_comm (den q) (num p))) (le_trans (le→cross p q hp hq h) (le_of_eq (mul_comm (num q) (den p)))))))

-- ---- the ETX
product_above : (x y : Float) → Ratio x → Ratio y → T (not (le (mul binary64 x y) zero_float)) → T (positive (mul binary64 x y))
product_above x y hx hy = above_zero (mul binary64 x y) (within_finite tt tt (product_ratio binary64 x y hx hy))

pub etx_within : (x y : Float) → Ratio x → Ratio y → Within one_float max_etx (etx_of x y)
unfolding etx_of
etx_within x y hx hy = go (le p zero_float) (product_above x y hx hy)
  where
    p : Float
    p = mul binary64 x y

    go : (b : Bool) → (T (not b) → T (positive p)) → Within one_float max_etx (cond b max_etx (clamped one_float max_etx (div binary64 one_float p)))
    go true h = record { low = ends; high = le_reflexive max_etx (unfold is_nan in tt) }
    go false h = clamp_within one_float max_etx ends (div binary64 one_float p) (inverse_number binary64 p (h tt))

-- a larger forward ratio gives no larger ETX
pub etx_falls_forward : (x x' y : Float) → Ratio x → Ratio x' → Ratio y → T (le x x') → T (le (etx_of x' y) (etx_of x y))
unfolding etx_of
etx_falls_forward x x' y hx hx' hy h =
    go (le p zero_float) (le p' zero_float) (λ t. t) (λ t. t) (product_above x y hx hy) (product_above x' y hx' hy) (etx_within x' y hx' hy).high
  where
    p : Float
    p = mul binary64 x y

    p' : Float
    p' = mul binary64 x' y

    l : T (le p p')
    l = product_monotone binary64 x x' y hx hx' hy h

    inverse : Float → Float
    inverse z = clamped one_float max_etx (div binary64 one_float z)

    go : (b b' : Bool) → (T (not b) → T (not (le p zero_float))) → (T b' → T (le p' zero_float)) → (T (not b) → T (positive p)) → (T (not b') → T (positive p')) → T (le (cond b' max_etx (inverse p')) max_etx)
        → T (le (cond b' max_etx (inverse p')) (cond b max_etx (inverse p)))
    go true b' u v w w' r = r
    go false true u v w w' r = absurd (T_not (le p zero_float) (u tt) (le_transitive p p' zero_float l (v tt)))
    go false false u v w w' r = clamp_monotone one_float max_etx ends (div binary64 one_float p') (div binary64 one_float p) (inverse_falls binary64 p p' (w tt) (w' tt) l)

etx_commutes : (x y : Float) → etx_of x y ≡ etx_of y x
unfolding etx_of
etx_commutes x y = rw (mul_commutes binary64 x y)

-- nor does a larger reverse ratio
pub etx_falls_reverse : (x y y' : Float) → Ratio x → Ratio y → Ratio y' → T (le y y') → T (le (etx_of x y') (etx_of x y))
etx_falls_reverse x y y' hx hy hy' h = rw (etx_commutes x y', etx_commutes x y) (etx_falls_forward y y' x hy hy' hx h)
