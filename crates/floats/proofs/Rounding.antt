-- One rounding: it keeps the order of fractions of either sign, a value that the format holds rounds to itself, and no result is a NaN.
-- `Rounds` says of a float that it is a fraction rounded once.
use Rattle.std.proofs.Common.{◌≡◌, ℕ, zero, suc, ◌*◌, ◌^◌, ◌<◌, Bool, true, false, cond, not, T, ltb, ℤ, pos, sym, refl, ap, ◌∙◌, subst, zero-le, le_trans, le_of_eq, zero-lt-suc, zero-mul}
use lib.Ieee.{Float, inf, fin, Format, prec, low, up, down, odd, units, round, neg, le, fits, is_nan}
use lib.Ieee.Fits.{down_pos, round_is, round-fits}
use lib.Ieee.Order.{drop, kept, round_mono}
use lib.Ieee.Scale.{grid, overflow, round_same}
use Rattle.floats.proofs.Fractions.{Ordered, none, at_none}
use Rattle.floats.proofs.Order.{le_transitive, le_neg}
use Rattle.floats.proofs.Ranges.{minus_zero, zeros_level}
use Rattle.floats.proofs.At.{At, Sign, sign_of}
use Rattle.floats.proofs.Grid.{held_value, round_at}
use Rattle.floats.proofs.Units.{counted, fits_unique}
use Rattle.floats.specs.Operations.{zero_float}

-- ---- a value that the format holds
pub round_held : (f : Format) (s : Bool) (m : ℕ) (e : ℤ) → T (fits f (fin s m e)) → round f s (m * up e) (down e) ≡ fin s m e
round_held f s m e h =
    let c = counted f s m e h in
    fits_unique f s (m * up e) (down e) (down_pos e) (round f s (m * up e) (down e)) (fin s m e) (round-fits f s (m * up e) (down e)) h
    (held_value f s (m * up e) (down e) c.count (down_pos e) c.held c.size_is)
    (refl, refl)

-- 0 rounds to the zero of its sign
pub round_zero : (f : Format) (s : Bool) (c : ℕ) → 0 < c → round f s 0 c ≡ fin s 0 (pos 0)
round_zero f s c C = round_same f s 0 c 0 1 C (zero-lt-suc 0) (zero-mul 1 ∙ sym (zero-mul c)) ∙ round_held f s 0 (pos 0) (unfold fits in tt)

-- ---- the two signs
odd_neg : (d q k l : ℕ) → odd d true q k l ≡ neg (odd d false q k l)
unfolding odd neg
odd_neg d zero k l = refl
odd_neg d (suc q) k l = refl

units_neg : (f : Format) (q k : ℕ) → units f true q k ≡ neg (units f false q k)
unfolding units
units_neg f q k = go (ltb (q * 2 ^ k) (overflow f))
  where
    go : (b : Bool) → cond b (odd (suc (prec f)) true q k (low f)) (inf true) ≡ neg (cond b (odd (suc (prec f)) false q k (low f)) (inf false))
    go true = odd_neg (suc (prec f)) q k (low f)
    go false = unfold neg in refl

pub round_neg : (f : Format) (a c : ℕ) → round f true a c ≡ neg (round f false a c)
round_neg f a c = round_is f true a c ∙ units_neg f (kept (prec f) (a * 2 ^ low f) c) (drop (prec f) (a * 2 ^ low f) c) ∙ ap neg (sym (round_is f false a c))

-- ---- no NaN
odd_number : (d : ℕ) (s : Bool) (q k l : ℕ) → T (not (is_nan (odd d s q k l)))
unfolding odd is_nan
odd_number d s zero k l = tt
odd_number d s (suc q) k l = tt

units_number : (f : Format) (s : Bool) (q k : ℕ) → T (not (is_nan (units f s q k)))
unfolding units
units_number f s q k = go (ltb (q * 2 ^ k) (overflow f))
  where
    go : (b : Bool) → T (not (is_nan (cond b (odd (suc (prec f)) s q k (low f)) (inf s))))
    go true = odd_number (suc (prec f)) s q k (low f)
    go false = unfold is_nan in tt

pub round_number : (f : Format) (s : Bool) (a c : ℕ) → T (not (is_nan (round f s a c)))
round_number f s a c =
    subst (λ (z : Float). T (not (is_nan z))) (sym (round_is f s a c)) (units_number f s (kept (prec f) (a * 2 ^ low f) c) (drop (prec f) (a * 2 ^ low f) c))

-- ---- the order
-- a fraction with a plus rounds to 0 or more
pub round_not_negative : (f : Format) (a c : ℕ) → 0 < c → T (le zero_float (round f false a c))
round_not_negative f a c C =
    subst (λ (z : Float). T (le z (round f false a c))) (round_zero f false 1 (zero-lt-suc 0)) (round_mono f 0 1 a c (zero-lt-suc 0) C (le_trans (le_of_eq (zero-mul c)) zero-le))

-- of two fractions of any signs the larger rounds to a value that is no smaller
pub round_monotone : (f : Format) (s : Bool) (a c : ℕ) (t : Bool) (b d : ℕ) → 0 < c → 0 < d → Ordered s a c t b d → T (le (round f s a c) (round f t b d))
round_monotone f false a c false b d C D h = round_mono f a c b d C D h
round_monotone f false a c true b d C D h =
    rw (h.0, h.1, round_zero f false c C, round_zero f true d D) zeros_level.0
round_monotone f true a c false b d C D h =
    rw (round_neg f a c)
    (le_transitive (neg (round f false a c)) minus_zero (round f false b d)
    (unfold neg in le_neg zero_float (round f false a c) (round_not_negative f a c C))
    (le_transitive minus_zero zero_float (round f false b d) zeros_level.1 (round_not_negative f b d D)))
round_monotone f true a c true b d C D h =
    rw (round_neg f a c, round_neg f b d) (le_neg (round f false b d) (round f false a c) (round_mono f b d a c D C h))

-- ---- x is n / c rounded once, with the sign s
unfoldable pub Rounds : Format → Float → Bool → ℕ → ℕ → Type 0
Rounds f x s n c = (t : Bool) × (x ≡ round f t n c) × Sign t s n

-- by another fraction of the same size
pub rescale : (f : Format) (x : Float) (s : Bool) (n d n' c : ℕ) → 0 < d → 0 < c → n * c ≡ n' * d → Rounds f x s n d → Rounds f x s n' c
unfolding Rounds
rescale f x s n d n' c D C e r = (r.0, r.1 ∙ round_same f r.0 n d n' c D C e, sign_of (λ (z : n ≡ 0). none n' d D (sym e ∙ at_none c z)) r.2)

-- in units, where the result is finite
pub rounds_at : (f : Format) (x : Float) (s : Bool) (n c : ℕ) → 0 < c → Rounds f x s n c → grid f n c < overflow f → At x s (grid f n c) (2 ^ low f)
unfolding Rounds
rounds_at f x s n c C r o = subst (λ (z : Float). At z s (grid f n c) (2 ^ low f)) (sym r.1) (round_at f r.0 s n c C r.2 o)
