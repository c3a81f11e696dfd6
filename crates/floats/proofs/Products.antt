-- A product, rounded once: of two values by their sizes, and the same either way round.
use Rattle.std.proofs.Common.{◌≡◌, ℕ, ◌*◌, ◌^◌, ◌<◌, Bool, true, false, cond, not, eqb, refl, ap, ◌∙◌, inl, inr, mul_comm, mul-pos, mul-zero}
use native.Mathlib.Nat.{mul-mul-mul_comm}
use mathlib.Core.Bool.{beq}
use lib.Ieee.{Float, nan, inf, fin, Format, low, unlike, up, down, round, mul}
use lib.Ieee.Fits.{down_pos}
use lib.Ieee.Scale.{grid, overflow}
use Rattle.floats.proofs.Fractions.{at_none}
use Rattle.floats.proofs.At.{At, Sign, sign_of, empty}
use Rattle.floats.proofs.Rounding.{Rounds, rescale, rounds_at}

sign_mul : (t u s s' : Bool) (X Y : ℕ) → Sign t s X → Sign u s' Y → Sign (unlike t u) (unlike s s') (X * Y)
sign_mul t u s s' X Y (inl p) (inl q) = inl (ap (λ (b : Bool). unlike b u) p ∙ ap (λ (b : Bool). unlike s b) q)
sign_mul t u s s' X Y (inl p) (inr w) = inr (ap (λ (k : ℕ). X * k) w ∙ mul-zero X)
sign_mul t u s s' X Y (inr z) q = inr (at_none Y z)

mul_rounds : (f : Format) (x y : Float) (s s' : Bool) (a c b d : ℕ) → 0 < c → 0 < d → At x s a c → At y s' b d → Rounds f (mul f x y) (unlike s s') (a * b) (c * d)
unfolding mul Rounds
mul_rounds f nan y s s' a c b d C D v w = absurd v
mul_rounds f (inf t) y s s' a c b d C D v w = absurd v
mul_rounds f (fin t m e) nan s s' a c b d C D v w = absurd w
mul_rounds f (fin t m e) (inf u) s s' a c b d C D v w = absurd w
mul_rounds f (fin t m e) (fin u n g) s s' a c b d C D v w =
    let X = m * up e in
    let Y = n * up g in
    rescale f (round f (unlike t u) (X * Y) (down e * down g)) (unlike s s') (X * Y) (down e * down g) (a * b) (c * d) (mul-pos (down_pos e) (down_pos g)) (mul-pos C D)
    (mul-mul-mul_comm X Y c d ∙ ap (λ (k : ℕ). k * (Y * d)) v.1 ∙ ap (λ (k : ℕ). a * down e * k) w.1 ∙ mul-mul-mul_comm a (down e) b (down g))
    (unlike t u, refl, sign_mul t u s s' X Y (sign_of (empty X (down e) a c C v.1) v.0) (sign_of (empty Y (down g) b d D w.1) w.0))

-- in units
pub mul_at : (f : Format) (x y : Float) (s s' : Bool) (a c b d : ℕ) → 0 < c → 0 < d → At x s a c → At y s' b d → grid f (a * b) (c * d) < overflow f
    → At (mul f x y) (unlike s s') (grid f (a * b) (c * d)) (2 ^ low f)
mul_at f x y s s' a c b d C D v w o = rounds_at f (mul f x y) (unlike s s') (a * b) (c * d) (mul-pos C D) (mul_rounds f x y s s' a c b d C D v w) o

-- ---- either way round
beq_comm : (s t : Bool) → beq s t ≡ beq t s
beq_comm true true = refl
beq_comm true false = refl
beq_comm false true = refl
beq_comm false false = refl

pub mul_commutes : (f : Format) (x y : Float) → mul f x y ≡ mul f y x
unfolding mul
mul_commutes f nan nan = refl
mul_commutes f nan (inf t) = refl
mul_commutes f nan (fin t n g) = refl
mul_commutes f (inf s) nan = refl
mul_commutes f (inf s) (inf t) = ap (λ (b : Bool). inf (not b)) (beq_comm s t)
mul_commutes f (inf s) (fin t n g) = ap (λ (b : Bool). cond (eqb n 0) nan (inf (not b))) (beq_comm s t)
mul_commutes f (fin s m e) nan = refl
mul_commutes f (fin s m e) (inf t) = ap (λ (b : Bool). cond (eqb m 0) nan (inf (not b))) (beq_comm s t)
mul_commutes f (fin s m e) (fin t n g) =
    ap (λ (b : Bool). round f (not b) (m * up e * (n * up g)) (down e * down g)) (beq_comm s t)
    ∙ ap (λ (k : ℕ). round f (unlike t s) k (down e * down g)) (mul_comm (m * up e) (n * up g))
    ∙ ap (λ (k : ℕ). round f (unlike t s) (n * up g * (m * up e)) k) (mul_comm (down e) (down g))
