-- A finite value by its size a / c and its sign s, where a zero may have either sign: `At x s a c`. Values that are not negative are in the order of their sizes.
use Rattle.std.proofs.Common.{◌≡◌, ℕ, ◌*◌, ◌<◌, ◌≤◌, Bool, true, false, not, T, ◌⊎◌, pos, sym, refl, ap, ◌∙◌, inl, inr, true≢false, mul_right_comm, arith}
use native.Mathlib.Nat.{eq_of_mul-eq-mul_right}
use lib.Ieee.{Float, nan, inf, fin, up, down, neg, le}
use lib.Ieee.Fits.{down_pos}
use lib.Ieee.Exact.{HasValue}
use lib.Ieee.Order.{transfer}
use lib.Ieee.Positive.{num, den}
use lib.Ieee.Scale.{finite}
use Rattle.floats.proofs.Fractions.{Ordered, le→ordered, ordered→le, none, at_none}
use Rattle.floats.specs.Operations.{zero_float}

-- the sign t is s, or the size is 0
abbrev pub Sign : Bool → Bool → ℕ → Type 0
Sign t s a = (t ≡ s) ⊎ (a ≡ 0)

-- x is finite, its size is a / c, and its sign is s
abbrev pub At : Float → Bool → ℕ → ℕ → Type 0
At nan s a c = ⊥
At (inf t) s a c = ⊥
At (fin t m e) s a c = Sign t s a × (m * up e * c ≡ a * down e)

-- a sign at one size is that at another that is 0 where the first is
pub sign_of : {t s : Bool} {a b : ℕ} → (a ≡ 0 → b ≡ 0) → Sign t s a → Sign t s b
sign_of f (inl e) = inl e
sign_of f (inr z) = inr (f z)

-- X / p is a / c, so X is 0 where a is
pub empty : (X p a c : ℕ) → 0 < c → X * c ≡ a * p → a ≡ 0 → X ≡ 0
empty X p a c C h z = none X c C (h ∙ at_none p z)

-- ---- from a value, and from a float itself
-- the library's `HasValue`, whose sign is exact
pub value→at : (x : Float) (t s : Bool) (a c : ℕ) → Sign t s a → HasValue x t a c → At x s a c
value→at nan t s a c g h = h
value→at (inf u) t s a c g h = h
value→at (fin u m e) t s a c (inl p) h = (inl (h.0 ∙ p), h.1)
value→at (fin u m e) t s a c (inr z) h = (inr z, h.1)

-- a value that is not negative, by its own fraction
pub own_at : (x : Float) → T (le zero_float x) → T (finite x) → At x false (num x) (den x)
own_at nan n k = absurd k
own_at (inf s) n k = absurd k
own_at (fin false m e) n k = (inl refl, refl)
own_at (fin true m e) n k = (inr (le→ordered 0 (pos 0) m e false true n).1, refl)

pub neg_at : (y : Float) (s : Bool) (b c : ℕ) → At y s b c → At (neg y) (not s) b c
unfolding neg
neg_at nan s b c h = h
neg_at (inf t) s b c h = h
neg_at (fin t m e) s b c (inl p, h) = (inl (ap not p), h)
neg_at (fin t m e) s b c (inr z, h) = (inr z, h)

-- two fractions of one value
pub same_size : (x : Float) (s t : Bool) (a c b d : ℕ) → At x s a c → At x t b d → a * d ≡ b * c
same_size nan s t a c b d h k = absurd h
same_size (inf u) s t a c b d h k = absurd h
same_size (fin u m e) s t a c b d h k =
    eq_of_mul-eq-mul_right (down e) (down_pos e) (a * d) (b * c)
    (mul_right_comm a d (down e) ∙ ap (λ (z : ℕ). z * d) (sym h.1) ∙ mul_right_comm (m * up e) c d ∙ ap (λ (z : ℕ). z * c) k.1 ∙ mul_right_comm b (down e) c)

-- ---- the order
cross : (t u : Bool) (X p Y q : ℕ) → Sign t false X → Sign u false Y → Ordered t X p u Y q → X * q ≤ Y * p
cross false false X p Y q f g h = h
cross false true X p Y q f g h = let z : X * q ≡ 0 = at_none q h.0 in omega arith
cross true u X p Y q (inl e) g h = absurd (true≢false e)
cross true u X p Y q (inr z) g h = let w : X * q ≡ 0 = at_none q z in omega arith

uncross : (t u : Bool) (X p Y q : ℕ) → 0 < q → Sign t false X → Sign u false Y → X * q ≤ Y * p → Ordered t X p u Y q
uncross false false X p Y q Q f g h = h
uncross false true X p Y q Q f (inl e) h = absurd (true≢false e)
uncross false true X p Y q Q f (inr w) h = let z : Y * p ≡ 0 = at_none p w in (none X q Q (omega arith), w)
uncross true false X p Y q Q f g h = tt
uncross true true X p Y q Q f (inl e) h = absurd (true≢false e)
uncross true true X p Y q Q f (inr w) h = let z : Y * p ≡ 0 = at_none p w in omega arith

-- the order of two values gives that of their sizes
pub le_at_lem : (x y : Float) (a c b d : ℕ) → 0 < c → 0 < d → At x false a c → At y false b d → T (le x y) → a * d ≤ b * c
le_at_lem nan y a c b d C D p q h = absurd p
le_at_lem (inf t) y a c b d C D p q h = absurd p
le_at_lem (fin t m e) nan a c b d C D p q h = absurd q
le_at_lem (fin t m e) (inf u) a c b d C D p q h = absurd q
le_at_lem (fin t m e) (fin u n g) a c b d C D p q h =
    transfer a b c d (m * up e) (n * up g) (down e) (down g) (down_pos e) (down_pos g) (sym p.1) (sym q.1)
    (cross t u (m * up e) (down e) (n * up g) (down g) (sign_of (empty (m * up e) (down e) a c C p.1) p.0) (sign_of (empty (n * up g) (down g) b d D q.1) q.0) (le→ordered m e n g t u h))

-- and the other way round
pub at_le : (x y : Float) (a c b d : ℕ) → 0 < c → 0 < d → At x false a c → At y false b d → a * d ≤ b * c → T (le x y)
at_le nan y a c b d C D p q h = absurd p
at_le (inf t) y a c b d C D p q h = absurd p
at_le (fin t m e) nan a c b d C D p q h = absurd q
at_le (fin t m e) (inf u) a c b d C D p q h = absurd q
at_le (fin t m e) (fin u n g) a c b d C D p q h =
    ordered→le m e n g t u
    (uncross t u (m * up e) (down e) (n * up g) (down g) (down_pos g) (sign_of (empty (m * up e) (down e) a c C p.1) p.0) (sign_of (empty (n * up g) (down g) b d D q.1) q.0)
    (transfer (m * up e) (n * up g) (down e) (down g) a b c d C D p.1 q.1 h))
