-- Two signed fractions in order, by whole numbers alone: it is what `le` and `lt` of two finite floats test, and it is transitive.
use Rattle.std.proofs.Common.{◌≡◌, ℕ, ◌+◌, ◌*◌, ◌<◌, ◌≤◌, Bool, true, false, not, ◌&&◌, ◌||◌, T, eqb, ltb, ◌⊎◌, ℤ, sym, ap, ◌∙◌, subst, inl, inr, le_of_eq, le_of_lt, eq-or-lt_of_le, zero-mul, arith, eqb→eq, ltb→lt, lt→ltb, nltb→le}
use native.Mathlib.Nat.{eq_of_mul-eq-mul_right}
use lib.Dec.{eqb_refl}
use lib.Ieee.{fin, up, down, lt, le}
use lib.Ieee.Fits.{down_pos, and_l, and_r}
use lib.Ieee.Positive.{through}

-- ±a / c ≤ ±b / d, where a sign of true is a minus and the two zeros are one
abbrev pub Ordered : Bool → ℕ → ℕ → Bool → ℕ → ℕ → Type 0
Ordered false a c false b d = a * d ≤ b * c
Ordered false a c true b d = (a ≡ 0) × (b ≡ 0)
Ordered true a c false b d = Unit {0}
Ordered true a c true b d = b * c ≤ a * d

-- ---- a fraction that is 0
-- a numerator is 0 where the fraction is
pub none : (a d : ℕ) → 0 < d → a * d ≡ 0 → a ≡ 0
none a d D h = eq_of_mul-eq-mul_right d D a 0 (h ∙ sym (zero-mul d))

-- and the other way round
pub at_none : {a : ℕ} (d : ℕ) → a ≡ 0 → a * d ≡ 0
at_none d e = ap (λ (z : ℕ). z * d) e ∙ zero-mul d

under_none : (a c b d : ℕ) → 0 < d → a * d ≤ b * c → b ≡ 0 → a ≡ 0
under_none a c b d D h e = none a d D (let z : b * c ≡ 0 = at_none c e in omega arith)

pub ordered_transitive : (s : Bool) (a c : ℕ) (t : Bool) (b d : ℕ) (u : Bool) (g h : ℕ) → 0 < c → 0 < d → 0 < h → Ordered s a c t b d → Ordered t b d u g h → Ordered s a c u g h
ordered_transitive false a c false b d false g h C D H p q = through a b g c d h D p q
ordered_transitive false a c false b d true g h C D H p q = (under_none a c b d D p q.0, q.1)
ordered_transitive false a c true b d false g h C D H p q = let z : a * h ≡ 0 = at_none h p.0 in omega arith
ordered_transitive false a c true b d true g h C D H p q = (p.0, under_none g h b d D q p.1)
ordered_transitive true a c false b d false g h C D H p q = tt
ordered_transitive true a c false b d true g h C D H p q = let z : g * c ≡ 0 = at_none c q.1 in omega arith
ordered_transitive true a c true b d false g h C D H p q = tt
ordered_transitive true a c true b d true g h C D H p q = through g b a h d c D q p

-- ---- the tests, on numerators over one denominator
pub or_left : (a b : Bool) → T a → T (a || b)
or_left true b t = tt
or_left false b t = absurd t

or_right : (a b : Bool) → T b → T (a || b)
or_right true b t = tt
or_right false b t = t

or_split : (a b : Bool) → T (a || b) → T a ⊎ T b
or_split true b t = inl tt
or_split false b t = inr t

and_true : (x : Bool) → T x → T (x && true)
and_true true t = tt
and_true false t = t

-- two sizes as `eq` compares them
level_sizes : (a b : ℕ) → a ≡ b → T (eqb a b && true)
level_sizes a b e = subst (λ (x : ℕ). T (eqb a x && true)) e (and_true (eqb a a) (eqb_refl a))

of_le : (a b : ℕ) → a ≤ b → T (ltb a b || (eqb a b && true))
of_le a b h = elim (eq-or-lt_of_le h) [ inl e ↦ or_right (ltb a b) (eqb a b && true) (level_sizes a b e) | inr l ↦ or_left (ltb a b) (eqb a b && true) (lt→ltb a b l) ]

of_ge : (a b : ℕ) → b ≤ a → T (ltb b a || (eqb a b && true))
of_ge a b h = elim (eq-or-lt_of_le h) [ inl e ↦ or_right (ltb b a) (eqb a b && true) (level_sizes a b (sym e)) | inr l ↦ or_left (ltb b a) (eqb a b && true) (lt→ltb b a l) ]

to_le : (a b : ℕ) → T (ltb a b || (eqb a b && true)) → a ≤ b
to_le a b t = elim (or_split (ltb a b) (eqb a b && true) t) [ inl u ↦ le_of_lt (ltb→lt a b u) | inr u ↦ le_of_eq (eqb→eq a b (and_l (eqb a b) true u)) ]

to_ge : (a b : ℕ) → T (ltb b a || (eqb a b && true)) → b ≤ a
to_ge a b t = elim (or_split (ltb b a) (eqb a b && true) t) [ inl u ↦ le_of_lt (ltb→lt b a u) | inr u ↦ le_of_eq (sym (eqb→eq a b (and_l (eqb a b) true u))) ]

both_zero : (a b : ℕ) → a ≡ 0 → b ≡ 0 → T (eqb a b && eqb a 0)
both_zero a b p q = subst (λ (x : ℕ). T (eqb x b && eqb x 0)) (sym p) (subst (λ (x : ℕ). T (eqb 0 x && eqb 0 0)) (sym q) tt)

zero_or_above : (a b : ℕ) → T (ltb 0 (a + b) || (eqb a b && eqb a 0))
zero_or_above a b = go (ltb 0 (a + b)) (nltb→le 0 (a + b))
  where
    go : (t : Bool) → (T (not t) → a + b ≤ 0) → T (t || (eqb a b && eqb a 0))
    go true h = tt
    go false h = let z = h tt in both_zero a b (omega arith) (omega arith)

-- ---- two finite floats
module _ (m : ℕ) (e : ℤ) (n : ℕ) (g : ℤ) where
  pub le→ordered : (s t : Bool) → T (le (fin s m e) (fin t n g)) → Ordered s (m * up e) (down e) t (n * up g) (down g)
  unfolding le
  le→ordered false false h = to_le (m * up e * down g) (n * up g * down e) h
  le→ordered false true h =
      let x = m * up e * down g in
      let y = n * up g * down e in
      let a : x ≡ 0 = eqb→eq x 0 (and_r (eqb x y) (eqb x 0) h) in
      let b : x ≡ y = eqb→eq x y (and_l (eqb x y) (eqb x 0) h) in
      (none (m * up e) (down g) (down_pos g) a, none (n * up g) (down e) (down_pos e) (sym b ∙ a))
  le→ordered true false h = tt
  le→ordered true true h = to_ge (m * up e * down g) (n * up g * down e) h

  pub ordered→le : (s t : Bool) → Ordered s (m * up e) (down e) t (n * up g) (down g) → T (le (fin s m e) (fin t n g))
  unfolding le
  ordered→le false false h = of_le (m * up e * down g) (n * up g * down e) h
  ordered→le false true h = both_zero (m * up e * down g) (n * up g * down e) (at_none (down g) h.0) (at_none (down e) h.1)
  ordered→le true false h = zero_or_above (m * up e * down g) (n * up g * down e)
  ordered→le true true h = of_ge (m * up e * down g) (n * up g * down e) h

  pub lt_excludes : (s t : Bool) → T (lt (fin s m e) (fin t n g)) → Ordered t (n * up g) (down g) s (m * up e) (down e) → ⊥
  unfolding lt
  lt_excludes false false h k = let l = ltb→lt (m * up e * down g) (n * up g * down e) h in omega arith
  lt_excludes false true h k = h
  lt_excludes true false h k =
      let l = ltb→lt 0 (m * up e * down g + n * up g * down e) h in
      let a : m * up e * down g ≡ 0 = at_none (down g) k.1 in
      let b : n * up g * down e ≡ 0 = at_none (down e) k.0 in
      omega arith
  lt_excludes true true h k = let l = ltb→lt (n * up g * down e) (m * up e * down g) h in omega arith

  pub not_lt→ordered : (s t : Bool) → T (not (lt (fin s m e) (fin t n g))) → Ordered t (n * up g) (down g) s (m * up e) (down e)
  unfolding lt
  not_lt→ordered false false h = nltb→le (m * up e * down g) (n * up g * down e) h
  not_lt→ordered false true h = tt
  not_lt→ordered true false h =
      let l = nltb→le 0 (m * up e * down g + n * up g * down e) h in
      (none (n * up g) (down e) (down_pos e) (omega arith), none (m * up e) (down g) (down_pos g) (omega arith))
  not_lt→ordered true true h = nltb→le (n * up g * down e) (m * up e * down g) h
