-- `le` and `lt` on every float but a NaN are a total order, in which the two zeros are one: `le` is reflexive, transitive and total, and `lt x y` holds
-- exactly where `le y x` fails. What is compared is no NaN.
use Rattle.std.proofs.Common.{◌*◌, Bool, true, false, not, T, ◌⊎◌, inl, inr, le_refl, T_not}
use lib.Dec.{not_T}
use lib.Ieee.{Float, nan, inf, fin, up, down, lt, le, eq, neg, is_nan}
use lib.Ieee.Fits.{down_pos}
use Rattle.floats.proofs.Fractions.{ordered_transitive, le→ordered, ordered→le, lt_excludes, not_lt→ordered, or_left}

pub le_reflexive : (x : Float) → T (not (is_nan x)) → T (le x x)
unfolding is_nan le
le_reflexive nan h = h
le_reflexive (inf true) h = tt
le_reflexive (inf false) h = tt
le_reflexive (fin true m e) h = ordered→le m e m e true true (le_refl (m * up e * down e))
le_reflexive (fin false m e) h = ordered→le m e m e false false (le_refl (m * up e * down e))

pub le_transitive : (x y z : Float) → T (le x y) → T (le y z) → T (le x z)
unfolding le
le_transitive nan y z h k = h
le_transitive (inf s) nan z h k = absurd h
le_transitive (inf s) (inf t) nan h k = k
le_transitive (inf true) (inf t) (inf true) h k = tt
le_transitive (inf true) (inf t) (inf false) h k = tt
le_transitive (inf false) (inf true) (inf u) h k = absurd h
le_transitive (inf false) (inf false) (inf u) h k = k
le_transitive (inf true) (inf t) (fin u o g) h k = tt
le_transitive (inf false) (inf true) (fin u o g) h k = absurd h
le_transitive (inf false) (inf false) (fin u o g) h k = absurd k
le_transitive (inf true) (fin t n d) nan h k = k
le_transitive (inf true) (fin t n d) (inf true) h k = tt
le_transitive (inf true) (fin t n d) (inf false) h k = tt
le_transitive (inf true) (fin t n d) (fin u o g) h k = tt
le_transitive (inf false) (fin t n d) z h k = absurd h
le_transitive (fin s m e) nan z h k = absurd h
le_transitive (fin s m e) (inf t) nan h k = k
le_transitive (fin s m e) (inf true) (inf u) h k = absurd h
le_transitive (fin s m e) (inf false) (inf true) h k = absurd k
le_transitive (fin s m e) (inf false) (inf false) h k = tt
le_transitive (fin s m e) (inf true) (fin u o g) h k = absurd h
le_transitive (fin s m e) (inf false) (fin u o g) h k = absurd k
le_transitive (fin s m e) (fin t n d) nan h k = absurd k
le_transitive (fin s m e) (fin t n d) (inf u) h k = k
le_transitive (fin s m e) (fin t n d) (fin u o g) h k =
    ordered→le m e o g s u
    (ordered_transitive s (m * up e) (down e) t (n * up d) (down d) u (o * up g) (down g) (down_pos e) (down_pos d) (down_pos g) (le→ordered m e n d s t h) (le→ordered n d o g t u k))

-- ---- `lt x y` is where `le y x` fails
pub lt_excludes_le : (x y : Float) → T (lt x y) → T (le y x) → ⊥
unfolding lt le
lt_excludes_le nan y h k = h
lt_excludes_le (inf s) nan h k = h
lt_excludes_le (inf true) (inf true) h k = h
lt_excludes_le (inf true) (inf false) h k = k
lt_excludes_le (inf false) (inf t) h k = h
lt_excludes_le (inf true) (fin t n d) h k = k
lt_excludes_le (inf false) (fin t n d) h k = h
lt_excludes_le (fin s m e) nan h k = h
lt_excludes_le (fin s m e) (inf true) h k = h
lt_excludes_le (fin s m e) (inf false) h k = k
lt_excludes_le (fin s m e) (fin t n d) h k = lt_excludes m e n d s t h (le→ordered n d m e t s k)

pub not_lt→le : (x y : Float) → T (not (is_nan x)) → T (not (is_nan y)) → T (not (lt x y)) → T (le y x)
unfolding is_nan lt le
not_lt→le nan y p q h = absurd p
not_lt→le (inf s) nan p q h = absurd q
not_lt→le (inf true) (inf true) p q h = tt
not_lt→le (inf true) (inf false) p q h = absurd h
not_lt→le (inf false) (inf true) p q h = tt
not_lt→le (inf false) (inf false) p q h = tt
not_lt→le (inf true) (fin t n d) p q h = absurd h
not_lt→le (inf false) (fin t n d) p q h = tt
not_lt→le (fin s m e) nan p q h = absurd q
not_lt→le (fin s m e) (inf true) p q h = tt
not_lt→le (fin s m e) (inf false) p q h = absurd h
not_lt→le (fin s m e) (fin t n d) p q h = ordered→le n d m e t s (not_lt→ordered m e n d s t h)

pub lt→le : (x y : Float) → T (lt x y) → T (le x y)
unfolding le
lt→le x y h = or_left (lt x y) (eq x y) h

pub le_total : (x y : Float) → T (not (is_nan x)) → T (not (is_nan y)) → T (le x y) ⊎ T (le y x)
le_total x y p q = go (lt x y) (lt→le x y) (not_lt→le x y p q)
  where
    go : (b : Bool) → (T b → T (le x y)) → (T (not b) → T (le y x)) → T (le x y) ⊎ T (le y x)
    go true h k = inl (h tt)
    go false h k = inr (k tt)

pub not_le→lt : (x y : Float) → T (not (is_nan x)) → T (not (is_nan y)) → T (not (le x y)) → T (lt y x)
not_le→lt x y p q h = go (lt y x) (λ t. t) (not_lt→le y x q p)
  where
    go : (b : Bool) → (T b → T (lt y x)) → (T (not b) → T (le x y)) → T (lt y x)
    go true a c = a tt
    go false a c = absurd (T_not (le x y) h (c tt))

-- ---- what is compared is no NaN
pub compared : (x y : Float) → T (le x y) → T (not (is_nan x)) × T (not (is_nan y))
unfolding is_nan le
compared nan y h = absurd h
compared (inf s) nan h = absurd h
compared (inf s) (inf t) h = (tt, tt)
compared (inf s) (fin t n d) h = (tt, tt)
compared (fin s m e) nan h = absurd h
compared (fin s m e) (inf t) h = (tt, tt)
compared (fin s m e) (fin t n d) h = (tt, tt)

pub lt_le_transitive : (x y z : Float) → T (lt x y) → T (le y z) → T (lt x z)
lt_le_transitive x y z h k =
    not_le→lt z x (compared y z k).1 (compared x y (lt→le x y h)).0 (not_T (le z x) (λ (t : T (le z x)). lt_excludes_le x y h (le_transitive y z x k t)))

-- ---- a change of sign turns the order round
pub le_neg : (x y : Float) → T (le x y) → T (le (neg y) (neg x))
unfolding le neg
le_neg nan y h = absurd h
le_neg (inf s) nan h = absurd h
le_neg (inf true) (inf true) h = tt
le_neg (inf true) (inf false) h = tt
le_neg (inf false) (inf true) h = absurd h
le_neg (inf false) (inf false) h = tt
le_neg (inf true) (fin t n d) h = tt
le_neg (inf false) (fin t n d) h = absurd h
le_neg (fin s m e) nan h = absurd h
le_neg (fin s m e) (inf true) h = absurd h
le_neg (fin s m e) (inf false) h = tt
le_neg (fin true m e) (fin true n d) h = ordered→le n d m e false false (le→ordered m e n d true true h)
le_neg (fin true m e) (fin false n d) h = ordered→le n d m e true false tt
le_neg (fin false m e) (fin true n d) h = let k = le→ordered m e n d false true h in ordered→le n d m e false true (k.1, k.0)
le_neg (fin false m e) (fin false n d) h = ordered→le n d m e true true (le→ordered m e n d false false h)
