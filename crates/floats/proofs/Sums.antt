-- Sums and differences, rounded once: of two values by their sizes over one denominator, and the same either way round.
use Rattle.std.proofs.Common.{◌≡◌, ℕ, ◌+◌, ◌-◌, ◌*◌, ◌^◌, ◌<◌, ◌≤◌, Bool, true, false, cond, not, ◌&&◌, T, ltb, sym, refl, ap, ◌∙◌, subst, inl, inr, true≢false, le_trans, le_of_eq, mul-le-mul_right, mul_assoc, mul_comm, add-mul, add_comm, mul-pos, mul_right_comm, le_of_mul-le-mul_right, arith, ltb→lt, nltb→le}
use native.Mathlib.Nat.{mul-sub}
use mathlib.Core.Bool.{beq, false≢true, and-true}
use lib.Ieee.{Float, nan, inf, fin, Format, low, up, down, round, neg, sum, add, sub}
use lib.Ieee.Fits.{down_pos}
use lib.Ieee.Scale.{grid, overflow}
use Rattle.floats.proofs.Fractions.{at_none}
use Rattle.floats.proofs.At.{At, Sign, sign_of, empty, neg_at}
use Rattle.floats.proofs.Rounding.{Rounds, rescale, rounds_at}

-- ---- signed sums over one denominator
not_both : (t s : Bool) → t ≡ s → t ≡ not s → ⊥
not_both t true p q = true≢false (sym p ∙ q)
not_both t false p q = true≢false (sym q ∙ p)

module _ (f : Format) (a b c : ℕ) where
  like_same : (t s : Bool) → Sign t s a → Sign t s b → Rounds f (round f t (a + b) c) s (a + b) c
  unfolding Rounds
  like_same t s (inl e) q = (t, refl, inl e)
  like_same t s (inr z) (inl e) = (t, refl, inl e)
  like_same t s (inr z) (inr w) = (t, refl, inr (omega arith))

  like_other : (t u s : Bool) → (t ≡ u → ⊥) → Sign t s a → Sign u s b → Rounds f (cond (ltb a b) (round f u (b - a) c) (round f (t && ltb b a) (a - b) c)) s (a + b) c
  unfolding Rounds
  like_other t u s ne p q = go (ltb a b) (ltb b a) (ltb→lt a b) (nltb→le a b) (nltb→le b a) p q
    where
      go : (x y : Bool) → (T x → a < b) → (T (not x) → b ≤ a) → (T (not y) → a ≤ b) → Sign t s a → Sign u s b
          → (v : Bool) × (cond x (round f u (b - a) c) (round f (t && y) (a - b) c) ≡ round f v (a + b) c) × Sign v s (a + b)
      go x y l g k (inl e) (inl e') = absurd (ne (e ∙ sym e'))
      go true y l g k (inr z) (inl e') = (u, ap (λ (n : ℕ). round f u n c) (let i : b - a ≡ a + b = omega arith in i), inl e')
      go true y l g k (inl e) (inr w) = absurd (let i = l tt in let j : ⊥ = omega arith in j)
      go true y l g k (inr z) (inr w) = absurd (let i = l tt in let j : ⊥ = omega arith in j)
      go false y l g k (inr z) (inl e') = let i = g tt in (t && y, ap (λ (n : ℕ). round f (t && y) n c) (let o : a - b ≡ a + b = omega arith in o), inr (omega arith))
      go false y l g k (inr z) (inr w) = (t && y, ap (λ (n : ℕ). round f (t && y) n c) (let o : a - b ≡ a + b = omega arith in o), inr (omega arith))
      go false true l g k (inl e) (inr w) = (t && true, ap (λ (n : ℕ). round f (t && true) n c) (let o : a - b ≡ a + b = omega arith in o), inl (and-true t ∙ e))
      go false false l g k (inl e) (inr w) = let i = k tt in (t && false, ap (λ (n : ℕ). round f (t && false) n c) (let o : a - b ≡ a + b = omega arith in o), inr (omega arith))

  sum_like : (t u s : Bool) → Sign t s a → Sign u s b → Rounds f (sum f t a u b c) s (a + b) c
  unfolding sum
  sum_like true true s p q = like_same true s p q
  sum_like false false s p q = like_same false s p q
  sum_like true false s p q = like_other true false s true≢false p q
  sum_like false true s p q = like_other false true s false≢true p q

  unlike_same : (t s : Bool) → b ≤ a → Sign t s a → Sign t (not s) b → Rounds f (round f t (a + b) c) s (a - b) c
  unfolding Rounds
  unlike_same t s h (inl e) (inl e') = absurd (not_both t s e e')
  unlike_same t s h (inl e) (inr w) = (t, ap (λ (n : ℕ). round f t n c) (let o : a + b ≡ a - b = omega arith in o), inl e)
  unlike_same t s h (inr z) q = (t, ap (λ (n : ℕ). round f t n c) (let o : a + b ≡ a - b = omega arith in o), inr (omega arith))

  unlike_other : (t u s : Bool) → b ≤ a → Sign t s a → Rounds f (cond (ltb a b) (round f u (b - a) c) (round f (t && ltb b a) (a - b) c)) s (a - b) c
  unfolding Rounds
  unlike_other t u s h p = go (ltb a b) (ltb b a) (ltb→lt a b) (ltb→lt b a) (nltb→le b a) p
    where
      go : (x y : Bool) → (T x → a < b) → (T y → b < a) → (T (not y) → a ≤ b) → Sign t s a
          → (v : Bool) × (cond x (round f u (b - a) c) (round f (t && y) (a - b) c) ≡ round f v (a - b) c) × Sign v s (a - b)
      go true y l g k p = absurd (let i = l tt in let j : ⊥ = omega arith in j)
      go false true l g k (inl e) = (t && true, refl, inl (and-true t ∙ e))
      go false true l g k (inr z) = (t && true, refl, inr (omega arith))
      go false false l g k p = let i = k tt in (t && false, refl, inr (omega arith))

  sum_unlike : (t u s : Bool) → b ≤ a → Sign t s a → Sign u (not s) b → Rounds f (sum f t a u b c) s (a - b) c
  unfolding sum
  sum_unlike true true s h p q = unlike_same true s h p q
  sum_unlike false false s h p q = unlike_same false s h p q
  sum_unlike true false s h p q = unlike_other true false s h p
  sum_unlike false true s h p q = unlike_other false true s h p

-- ---- X / p is a / c and Y / q is b / c: over the denominator p * q
gone : (X p q a c : ℕ) → 0 < c → X * c ≡ a * p → a ≡ 0 → X * q ≡ 0
gone X p q a c C h z = at_none q (empty X p a c C h z)

first_over : (X p q a c : ℕ) → X * c ≡ a * p → X * q * c ≡ a * (p * q)
first_over X p q a c h = mul_right_comm X q c ∙ ap (λ (k : ℕ). k * q) h ∙ mul_assoc a p q

second_over : (Y p q b c : ℕ) → Y * c ≡ b * q → Y * p * c ≡ b * (p * q)
second_over Y p q b c h = first_over Y q p b c h ∙ ap (λ (k : ℕ). b * k) (mul_comm q p)

sub_mul : (a b c : ℕ) → (a - b) * c ≡ a * c - b * c
sub_mul a b c = mul_comm (a - b) c ∙ mul-sub c a b ∙ ap (λ (k : ℕ). k - c * b) (mul_comm c a) ∙ ap (λ (k : ℕ). a * c - k) (mul_comm c b)

pub add_like : (f : Format) (x y : Float) (s : Bool) (a b c : ℕ) → 0 < c → At x s a c → At y s b c → Rounds f (add f x y) s (a + b) c
unfolding add
add_like f nan y s a b c C v w = absurd v
add_like f (inf t) y s a b c C v w = absurd v
add_like f (fin t m e) nan s a b c C v w = absurd w
add_like f (fin t m e) (inf u) s a b c C v w = absurd w
add_like f (fin t m e) (fin u n g) s a b c C v w =
    let X = m * up e in
    let Y = n * up g in
    let p = down e in
    let q = down g in
    rescale f (sum f t (X * q) u (Y * p) (p * q)) s (X * q + Y * p) (p * q) (a + b) c (mul-pos (down_pos e) (down_pos g)) C
    (add-mul (X * q) (Y * p) c
    ∙ ap (λ (k : ℕ). k + Y * p * c) (first_over X p q a c v.1)
    ∙ ap (λ (k : ℕ). a * (p * q) + k) (second_over Y p q b c w.1)
    ∙ sym (add-mul a b (p * q)))
    (sum_like f (X * q) (Y * p) (p * q) t u s (sign_of (gone X p q a c C v.1) v.0) (sign_of (gone Y q p b c C w.1) w.0))

add_unlike : (f : Format) (x y : Float) (s : Bool) (a b c : ℕ) → 0 < c → b ≤ a → At x s a c → At y (not s) b c → Rounds f (add f x y) s (a - b) c
unfolding add
add_unlike f nan y s a b c C h v w = absurd v
add_unlike f (inf t) y s a b c C h v w = absurd v
add_unlike f (fin t m e) nan s a b c C h v w = absurd w
add_unlike f (fin t m e) (inf u) s a b c C h v w = absurd w
add_unlike f (fin t m e) (fin u n g) s a b c C h v w =
    let X = m * up e in
    let Y = n * up g in
    let p = down e in
    let q = down g in
    let A : X * q * c ≡ a * (p * q) = first_over X p q a c v.1 in
    let B : Y * p * c ≡ b * (p * q) = second_over Y p q b c w.1 in
    let l : Y * p ≤ X * q = le_of_mul-le-mul_right (le_trans (le_of_eq B) (le_trans (mul-le-mul_right (p * q) h) (le_of_eq (sym A)))) C in
    rescale f (sum f t (X * q) u (Y * p) (p * q)) s (X * q - Y * p) (p * q) (a - b) c (mul-pos (down_pos e) (down_pos g)) C
    (sub_mul (X * q) (Y * p) c
    ∙ ap (λ (k : ℕ). k - Y * p * c) A
    ∙ ap (λ (k : ℕ). a * (p * q) - k) B
    ∙ sym (sub_mul a b (p * q)))
    (sum_unlike f (X * q) (Y * p) (p * q) t u s l (sign_of (gone X p q a c C v.1) v.0) (sign_of (gone Y q p b c C w.1) w.0))

-- ---- a sum is the same either way round
sum_comm_mixed : (f : Format) (a b c : ℕ) → sum f true a false b c ≡ sum f false b true a c
unfolding sum
sum_comm_mixed f a b c = go (ltb a b) (ltb b a) (ltb→lt a b) (ltb→lt b a) (nltb→le a b) (nltb→le b a)
  where
    go : (x y : Bool) → (T x → a < b) → (T y → b < a) → (T (not x) → b ≤ a) → (T (not y) → a ≤ b)
        → cond x (round f false (b - a) c) (round f (true && y) (a - b) c) ≡ cond y (round f true (a - b) c) (round f (false && x) (b - a) c)
    go true true h k i j = absurd (let l = h tt in let r = k tt in let z : ⊥ = omega arith in z)
    go true false h k i j = refl
    go false true h k i j = refl
    go false false h k i j = ap (λ (n : ℕ). round f false n c) (let l = i tt in let r = j tt in let z : a - b ≡ b - a = omega arith in z)

sum_comm : (f : Format) (s : Bool) (a : ℕ) (t : Bool) (b c : ℕ) → sum f s a t b c ≡ sum f t b s a c
unfolding sum
sum_comm f true a true b c = ap (λ (k : ℕ). round f true k c) (add_comm a b)
sum_comm f false a false b c = ap (λ (k : ℕ). round f false k c) (add_comm a b)
sum_comm f true a false b c = sum_comm_mixed f a b c
sum_comm f false a true b c = sym (sum_comm_mixed f b a c)

inf_comm : (s t : Bool) → cond (beq s t) (inf s) nan ≡ cond (beq t s) (inf t) nan
inf_comm true true = refl
inf_comm true false = refl
inf_comm false true = refl
inf_comm false false = refl

pub add_commutes : (f : Format) (x y : Float) → add f x y ≡ add f y x
unfolding add
add_commutes f nan nan = refl
add_commutes f nan (inf t) = refl
add_commutes f nan (fin t n g) = refl
add_commutes f (inf s) nan = refl
add_commutes f (inf s) (inf t) = inf_comm s t
add_commutes f (inf s) (fin t n g) = refl
add_commutes f (fin s m e) nan = refl
add_commutes f (fin s m e) (inf t) = refl
add_commutes f (fin s m e) (fin t n g) =
    sum_comm f s (m * up e * down g) t (n * up g * down e) (down e * down g) ∙ ap (λ (k : ℕ). sum f t (n * up g * down e) s (m * up e * down g) k) (mul_comm (down e) (down g))

-- ---- sums, in units
module _ (f : Format) (x y : Float) (s : Bool) (a b c : ℕ) (C : 0 < c) where
  -- of like signs
  pub add_at : At x s a c → At y s b c → grid f (a + b) c < overflow f → At (add f x y) s (grid f (a + b) c) (2 ^ low f)
  add_at v w o = rounds_at f (add f x y) s (a + b) c C (add_like f x y s a b c C v w) o

  -- of unlike signs, the first no smaller
  pub less_at : b ≤ a → At x s a c → At y (not s) b c → grid f (a - b) c < overflow f → At (add f x y) s (grid f (a - b) c) (2 ^ low f)
  less_at h v w o = rounds_at f (add f x y) s (a - b) c C (add_unlike f x y s a b c C h v w) o

-- ---- a difference of values that are not negative, either way
module _ (f : Format) (x y : Float) (a b c : ℕ) (C : 0 < c) (v : At x false a c) (w : At y false b c) where
  -- x is no smaller
  pub sub_at : b ≤ a → grid f (a - b) c < overflow f → At (sub f x y) false (grid f (a - b) c) (2 ^ low f)
  unfolding sub
  sub_at h o = less_at f x (neg y) false a b c C h v (neg_at y false b c w) o

  -- y is no smaller
  pub sub_at_neg : a ≤ b → grid f (b - a) c < overflow f → At (sub f x y) true (grid f (b - a) c) (2 ^ low f)
  unfolding sub
  sub_at_neg h o = subst (λ (z : Float). At z true (grid f (b - a) c) (2 ^ low f)) (add_commutes f (neg y) x) (less_at f (neg y) x true b a c C h (neg_at y false b c w) v o)
