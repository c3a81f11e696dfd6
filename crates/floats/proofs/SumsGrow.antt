-- A sum of values that are not negative is no smaller than either, after its rounding too, and the addends of a number are numbers; the lesser of two values says of
-- both that they are not negative.
use Rattle.std.proofs.Common.{ℕ, ◌+◌, ◌*◌, ◌^◌, ◌<◌, ◌≤◌, Bool, true, false, cond, not, T, sym, refl, subst, inl, inr, true≢false, le_refl, lt_of_le_of_lt, mul-le-mul_right, arith, pow_pos}
use lib.Ieee.{Float, nan, inf, fin, Format, low, round, add, lt, le, fits, is_nan}
use lib.Ieee.Scale.{grid, overflow}
use Rattle.floats.proofs.Fractions.{Ordered}
use Rattle.floats.proofs.At.{Sign, at_le}
use Rattle.floats.proofs.Grid.{grid_le, grid_ge, round_at}
use Rattle.floats.proofs.Order.{le_transitive, lt→le, not_lt→le}
use Rattle.floats.proofs.Rounding.{Rounds, round_monotone}
use Rattle.floats.proofs.Sums.{add_like, add_commutes}
use Rattle.floats.proofs.Units.{InUnits, fits→units}
use Rattle.floats.specs.Operations.{zero_float, lesser}

-- ---- a sum
ordered : (X Y U : ℕ) (t : Bool) → Sign t false (X + Y) → Ordered false X U t (X + Y) U
ordered X Y U false s = mul-le-mul_right U (let i : X ≤ X + Y = omega arith in i)
ordered X Y U true (inl e) = absurd (true≢false e)
ordered X Y U true (inr z) = (omega arith, z)

finite_grows : (f : Format) (x y : Float) → InUnits f x → InUnits f y → T (le x (add f x y))
unfolding Rounds
finite_grows f x y p q =
    let U = 2 ^ low f in
    let P : 0 < U = pow_pos (low f) in
    let X = p.count in
    let Y = q.count in
    let o : grid f X U < overflow f = lt_of_le_of_lt (grid_le f X U X P p.held (le_refl (X * U))) p.held.under in
    let own = round_at f false false X U P (inl refl) o in
    let r = add_like f x y false X Y U P p.at q.at in
    le_transitive x (round f false X U) (add f x y)
    (at_le x (round f false X U) X U (grid f X U) U P P p.at own (mul-le-mul_right U (grid_ge f X U X P p.held o (le_refl (X * U)))))
    (subst (λ (z : Float). T (le (round f false X U) z)) (sym r.1) (round_monotone f false X U r.0 (X + Y) U P P (ordered X Y U r.0 r.2)))

pub sum_grows : (f : Format) (x y : Float) → T (fits f x) → T (fits f y) → T (le zero_float x) → T (le zero_float y) → T (le x (add f x y))
unfolding add le
sum_grows f nan y fx fy nx ny = absurd nx
sum_grows f (inf true) y fx fy nx ny = absurd nx
sum_grows f (inf false) nan fx fy nx ny = absurd ny
sum_grows f (inf false) (inf true) fx fy nx ny = absurd ny
sum_grows f (inf false) (inf false) fx fy nx ny = tt
sum_grows f (inf false) (fin t n g) fx fy nx ny = tt
sum_grows f (fin s m e) nan fx fy nx ny = absurd ny
sum_grows f (fin s m e) (inf true) fx fy nx ny = absurd ny
sum_grows f (fin s m e) (inf false) fx fy nx ny = tt
sum_grows f (fin s m e) (fin t n g) fx fy nx ny = finite_grows f (fin s m e) (fin t n g) (fits→units f (fin s m e) fx nx tt) (fits→units f (fin t n g) fy ny tt)

-- so both addends are at most what the sum is
pub addends_within : (f : Format) (x y hi : Float) → T (fits f x) → T (fits f y) → T (le zero_float x) → T (le zero_float y) → T (le (add f x y) hi) → T (le x hi) × T (le y hi)
addends_within f x y hi fx fy nx ny h = (
  le_transitive x (add f x y) hi (sum_grows f x y fx fy nx ny) h,
  le_transitive y (add f x y) hi (subst (λ (z : Float). T (le y z)) (add_commutes f y x) (sum_grows f y x fy fx ny nx)) h,
)

-- a sum is not negative where its addends are not
pub sum_not_negative : (f : Format) (x y : Float) → T (fits f x) → T (fits f y) → T (le zero_float x) → T (le zero_float y) → T (le zero_float (add f x y))
sum_not_negative f x y fx fy nx ny = le_transitive zero_float x (add f x y) nx (sum_grows f x y fx fy nx ny)

-- ---- no NaN
pub addends_numbers : (f : Format) (x y : Float) → T (not (is_nan (add f x y))) → T (not (is_nan x)) × T (not (is_nan y))
unfolding add is_nan
addends_numbers f nan y h = absurd h
addends_numbers f (inf s) nan h = absurd h
addends_numbers f (inf s) (inf t) h = (tt, tt)
addends_numbers f (inf s) (fin t n g) h = (tt, tt)
addends_numbers f (fin s m e) nan h = absurd h
addends_numbers f (fin s m e) (inf t) h = (tt, tt)
addends_numbers f (fin s m e) (fin t n g) h = (tt, tt)

-- ---- the lesser of two numbers
-- is a number
pub lesser_number : (x y : Float) → T (not (is_nan x)) → T (not (is_nan y)) → T (not (is_nan (lesser x y)))
unfolding lesser
lesser_number x y p q = go (lt x y)
  where
    go : (b : Bool) → T (not (is_nan (cond b x y)))
    go true = p
    go false = q

-- and says of both that they are not negative
pub lesser_not_negative : (x y : Float) → T (not (is_nan x)) → T (not (is_nan y)) → T (le zero_float (lesser x y)) → T (le zero_float x) × T (le zero_float y)
unfolding lesser
lesser_not_negative x y p q h = go (lt x y) (lt→le x y) (not_lt→le x y p q) h
  where
    go : (b : Bool) → (T b → T (le x y)) → (T (not b) → T (le y x)) → T (le zero_float (cond b x y)) → T (le zero_float x) × T (le zero_float y)
    go true l g h = (h, le_transitive zero_float x y h (l tt))
    go false l g h = (le_transitive zero_float y x h (g tt), h)
