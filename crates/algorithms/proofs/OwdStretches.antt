-- The live pairs of a ring stand in two straight stretches of its slots, and a stretch is its first pair and the stretch after it. Sums and tests over pairs
-- go from one stretch to the next.
use Rattle.std.proofs.Common.{◌≡◌, ℕ, suc, ◌+◌, ◌-◌, ◌<◌, ◌≤◌, min, Bool, true, false, ◌&&◌, ltb, List, [], ◌∷◌, ◌++◌, length, get_or, take, drop, ℤ, pos, sym, refl, ap, ◌∙◌, append-nil, add-one, arith, length-append, length-drop, length-take, take_all, drop-cons, ltb-false, ltb-true}
use mathlib.Core.Bool.{and_assoc, and-eq-true_iff}
use Rattle.std.specs.Prelude.{Ok, Err}
use Rattle.std.proofs.lemmas.List.{drop_all}
use lib.Seq.{drop-append-le, take-append-le, take-append-add}
use lib.Ieee.{Float, binary64, add}
use Rattle.refusals.specs.Answers.{answered, numbered}
use Rattle.refusals.specs.declared.refusal.Refusal.{Refusal}
use Rattle.refusals.specs.declared.refusal.Refusal.TheVariants.{DelaySamples}
use Rattle.refusals.specs.Ranges.{delay_ok}
use Rattle.algorithms.specs.Owd.{Rule, Lent, Pair, pairs, live, window, samples_ok}
use Rattle.algorithms.specs.OwdTrend.{time, delay, plus}
use Rattle.algorithms.specs.Passes.{part, summed}
use Rattle.algorithms.specs.declared.passes.Sums.{Sums}
use Rattle.algorithms.specs.declared.owd.OwdTrendDetector.{OwdTrendDetector}

-- ---- a stretch, pair by pair
abbrev pub pair : ℕ → ℤ → Pair
pair t d = record { at_ms = t; owd_us = d }

-- what is left of two runs from a slot on
abbrev pub left_from : ℕ → List ℕ → List ℤ → List Pair
left_from n ts ds = pairs (drop n ts) (drop n ds)

left_cons : (n : ℕ) (ts : List ℕ) (ds : List ℤ) → n < length ts → n < length ds → left_from n ts ds ≡ pair (get_or ts n 0) (get_or ds n (pos 0)) ∷ left_from (n + 1) ts ds
left_cons n ts ds h k = rw (drop-cons ts n 0 h, drop-cons ds n (pos 0) k, add-one n)

left_none : (n : ℕ) (ts : List ℕ) (ds : List ℤ) → length ts ≤ n → left_from n ts ds ≡ []
left_none n ts ds h = rw (drop_all n ts h)

-- the pairs in the slots from one up to another
abbrev pub stretch : ℕ → ℕ → List ℕ → List ℤ → List Pair
stretch from to ts ds = pairs (part from to ts) (part from to ds)

-- those in the first so many
abbrev pub front : ℕ → List ℕ → List ℤ → List Pair
front n ts ds = pairs (take n ts) (take n ds)

-- ---- a ring in two stretches
live_parts : {A : Type 0} (s : OwdTrendDetector) (xs : List A) → Rule s → length xs ≡ s.capacity
    → let stop = min (s.first + s.count) s.capacity in live s xs ≡ part s.first stop xs ++ take (s.first + s.count - stop) xs
live_parts {A} s xs r fit = opened ∙ go (ltb s.capacity (s.first + s.count)) (ltb-true s.capacity (s.first + s.count)) (ltb-false s.capacity (s.first + s.count))
  where
    stop : ℕ
    stop = min (s.first + s.count) s.capacity

    tail : List A
    tail = drop s.first xs

    tail_length : length tail ≡ s.capacity - s.first
    tail_length = length-drop s.first xs ∙ ap (λ (n : ℕ). n - s.first) fit

    opened : live s xs ≡ take s.count (tail ++ xs)
    opened = ap (take s.count) (drop-append-le s.first xs xs (omega (arith, fit, r.first)))

    go : (b : Bool) → (b ≡ true → s.capacity < s.first + s.count) → (b ≡ false → s.first + s.count ≤ s.capacity) → take s.count (tail ++ xs) ≡ part s.first stop xs ++ take (s.first + s.count - stop) xs
    go false p q =
        let l = q refl in
        let a : stop - s.first ≡ s.count = omega (arith, r.first) in
        let b : s.first + s.count - stop ≡ 0 = omega (arith, r.first) in
        take-append-le s.count tail xs (omega (arith, tail_length)) ∙ sym (append-nil (take s.count tail)) ∙ rw (a, b)
    go true p q =
        let l = p refl in
        let a : stop - s.first ≡ length tail = omega (arith, tail_length, r.first) in
        let b : s.count ≡ length tail + (s.first + s.count - stop) = omega (arith, tail_length, r.first) in
        ap (λ (n : ℕ). take n (tail ++ xs)) b ∙ take-append-add tail xs (s.first + s.count - stop) ∙ ap (λ (t : List A). t ++ take (s.first + s.count - stop) xs) (sym (ap (λ (n : ℕ). take n tail) a ∙ take_all (length tail) tail (omega arith)))

pub pairs_append : (a c : List ℕ) (b d : List ℤ) → length a ≡ length b → pairs (a ++ c) (b ++ d) ≡ pairs a b ++ pairs c d
pairs_append [] c [] d e = refl
pairs_append [] c (y ∷ b) d e = absurd (omega arith)
pairs_append (x ∷ a) c [] d e = absurd (omega arith)
pairs_append (x ∷ a) c (y ∷ b) d e = ap (λ (ps : List Pair). pair x y ∷ ps) (pairs_append a c b d (omega arith))

same_parts : {A B : Type 0} (p to : ℕ) (xs : List A) (ys : List B) → length xs ≡ length ys → length (part p to xs) ≡ length (part p to ys)
same_parts p to xs ys e =
    length-take (to - p) (drop p xs) ∙ ap (min (to - p)) (length-drop p xs ∙ ap (λ (n : ℕ). n - p) e ∙ sym (length-drop p ys)) ∙ sym (length-take (to - p) (drop p ys))

same_fronts : {A B : Type 0} (n : ℕ) (xs : List A) (ys : List B) → length xs ≡ length ys → length (take n xs) ≡ length (take n ys)
same_fronts n xs ys e = length-take n xs ∙ ap (min n) e ∙ sym (length-take n ys)

window_stretches : (s : OwdTrendDetector) (ts : List ℕ) (ds : List ℤ) → Lent s ts ds
    → let stop = min (s.first + s.count) s.capacity in window s ts ds ≡ stretch s.first stop ts ds ++ front (s.first + s.count - stop) ts ds
unfolding window
window_stretches s ts ds h =
    let stop = min (s.first + s.count) s.capacity in
    rw (live_parts s ts h.rule h.times_fit, live_parts s ds h.rule h.delays_fit)
    (pairs_append (part s.first stop ts) (take (s.first + s.count - stop) ts) (part s.first stop ds) (take (s.first + s.count - stop) ds) (same_parts s.first stop ts ds (h.times_fit ∙ sym h.delays_fit)))

-- as many pairs as are live
pairs_length : (a : List ℕ) (b : List ℤ) → length a ≡ length b → length (pairs a b) ≡ length a
pairs_length [] b e = refl
pairs_length (x ∷ a) [] e = absurd (omega arith)
pairs_length (x ∷ a) (y ∷ b) e = ap suc (pairs_length a b (omega arith))

pub live_length : {A : Type 0} (s : OwdTrendDetector) (xs : List A) → Rule s → length xs ≡ s.capacity → length (live s xs) ≡ s.count
live_length s xs r fit =
    length-take s.count (drop s.first (xs ++ xs)) ∙ (let e : length (drop s.first (xs ++ xs)) ≡ length xs + length xs - s.first = length-drop s.first (xs ++ xs) ∙ ap (λ (n : ℕ). n - s.first) (length-append xs xs) in
    omega (arith, r.first, r.count))

pub window_length : (s : OwdTrendDetector) (ts : List ℕ) (ds : List ℤ) → Lent s ts ds → length (window s ts ds) ≡ s.count
unfolding window
window_length s ts ds h =
    let a = live_length s ts h.rule h.times_fit in
    let b = live_length s ds h.rule h.delays_fit in
    pairs_length (live s ts) (live s ds) (a ∙ sym b) ∙ a

-- ---- over one list of pairs and then another
plus_append : (f : Pair → Float) (start : Float) (ps qs : List Pair) → plus f start (ps ++ qs) ≡ plus f (plus f start ps) qs
unfolding plus
plus_append f start [] qs = refl
plus_append f start (p ∷ ps) qs = plus_append f (add binary64 start (f p)) ps qs

samples_append : (ps qs : List Pair) → samples_ok (ps ++ qs) ≡ (samples_ok ps && samples_ok qs)
samples_append [] qs = refl
samples_append (p ∷ ps) qs = ap (λ (b : Bool). delay_ok p.owd_us && b) (samples_append ps qs) ∙ sym (and_assoc (delay_ok p.owd_us) (samples_ok ps) (samples_ok qs))

-- ---- one pair on: t and d are the nth of the two runs
module _ (n m : ℕ) (ts : List ℕ) (ds : List ℤ) (t : ℕ) (d : ℤ) (on : m ≡ n + 1) (turn : (n < length ts) × (n < length ds) × ((o : ℕ) → t ≡ get_or ts n o) × ((o : ℤ) → d ≡ get_or ds n o)) where
  left_next : left_from n ts ds ≡ pair t d ∷ left_from m ts ds
  left_next = left_cons n ts ds turn.0 turn.1 ∙ rw (turn.2 0, turn.3 (pos 0), on)

  pub plus_next : (f : Pair → Float) (x : Float) → plus f (add binary64 x (f (pair t d))) (left_from m ts ds) ≡ plus f x (left_from n ts ds)
  unfolding plus
  plus_next f x = rw left_next

  pub samples_next : samples_ok (left_from n ts ds) ≡ (delay_ok d && samples_ok (left_from m ts ds))
  samples_next = rw left_next

-- ---- none left
module _ (n : ℕ) (ts : List ℕ) (ds : List ℤ) (same : length ds ≡ length ts) (over : n ≡ min (length ts) (length ds)) where
  none_left : left_from n ts ds ≡ []
  none_left = left_none n ts ds (omega arith)

  pub plus_over : (f : Pair → Float) (x : Float) → plus f x (left_from n ts ds) ≡ x
  unfolding plus
  plus_over f x = rw none_left

  pub samples_over : samples_ok (left_from n ts ds) ≡ true
  samples_over = rw none_left

-- ---- the first pass
pub summed_refused : (x y : Float) (ps : List Pair) → samples_ok ps ≡ false → Err DelaySamples ≡ summed x y ps
unfolding summed answered numbered
summed_refused x y ps h = rw h

pub summed_accepted : (x y : Float) (ps : List Pair) → samples_ok ps ≡ true → Ok (record { x = plus time x ps; y = plus delay y ps }) ≡ summed x y ps
unfolding summed answered
summed_accepted x y ps h = rw h

-- over one list of pairs and then another
summed_stays : (x y : Float) (ps qs : List Pair) (e : Refusal) → summed x y ps ≡ Err e → Err e ≡ summed x y (ps ++ qs)
summed_stays x y ps qs e h = go (samples_ok ps) refl
  where
    go : (b : Bool) → samples_ok ps ≡ b → Err e ≡ summed x y (ps ++ qs)
    go true k = absurd (let a = summed_accepted x y ps k in cc)
    go false k =
        let a = summed_refused x y ps k in
        let b = summed_refused x y (ps ++ qs) (samples_append ps qs ∙ ap (λ (b : Bool). b && samples_ok qs) k) in cc

summed_goes : (x y : Float) (ps qs : List Pair) (s : Sums) → summed x y ps ≡ Ok s → summed s.x s.y qs ≡ summed x y (ps ++ qs)
unfolding summed
summed_goes x y ps qs s h = go (samples_ok ps) refl
  where
    both : samples_ok ps ≡ true → s ≡ record { x = plus time x ps; y = plus delay y ps }
    both k = let a = summed_accepted x y ps k in cc

    at : samples_ok ps ≡ true → summed (plus time x ps) (plus delay y ps) qs ≡ summed x y (ps ++ qs)
    at k = rw (samples_append ps qs, k, plus_append time x ps qs, plus_append delay y ps qs)

    go : (b : Bool) → samples_ok ps ≡ b → summed s.x s.y qs ≡ summed x y (ps ++ qs)
    go true k = ap (λ (z : Sums). summed z.x z.y qs) (both k) ∙ at k
    go false k = absurd (let a = summed_refused x y ps k in cc)

-- ---- over the two stretches of a window
module _ (s : OwdTrendDetector) (ts : List ℕ) (ds : List ℤ) (h : Lent s ts ds) (stop : ℕ) (at : stop ≡ min (s.first + s.count) s.capacity) where
  abbrev rest : ℕ
  rest = s.first + s.count - stop

  in_two : stretch s.first stop ts ds ++ front rest ts ds ≡ window s ts ds
  in_two = rw at (sym (window_stretches s ts ds h))

  -- a sum over the first stretch, gone on over the second
  pub plus_window : (f : Pair → Float) (t : Float) {run sum : Float} → run ≡ plus f t (stretch s.first stop ts ds) → sum ≡ plus f run (front rest ts ds) → sum ≡ plus f t (window s ts ds)
  plus_window f t {run} {sum} p q =
      q ∙ ap (λ (x : Float). plus f x (front rest ts ds)) p ∙ sym (plus_append f t (stretch s.first stop ts ds) (front rest ts ds)) ∙ ap (plus f t) in_two

  samples_both : samples_ok (window s ts ds) ≡ (samples_ok (stretch s.first stop ts ds) && samples_ok (front rest ts ds))
  samples_both = ap samples_ok (sym in_two) ∙ samples_append (stretch s.first stop ts ds) (front rest ts ds)

  -- where the window answers yes to question 5, both stretches do
  pub samples_window : samples_ok (window s ts ds) ≡ true → (samples_ok (stretch s.first stop ts ds) ≡ true) × (samples_ok (front rest ts ds) ≡ true)
  samples_window ok = (and-eq-true_iff (samples_ok (stretch s.first stop ts ds)) (samples_ok (front rest ts ds))).0 (sym samples_both ∙ ok)

  -- the first pass over the first stretch, where it ends there or goes on over the second
  pub summed_err : (x y : Float) (e : Refusal) → summed x y (stretch s.first stop ts ds) ≡ Err e → Err e ≡ summed x y (window s ts ds)
  summed_err x y e p = summed_stays x y (stretch s.first stop ts ds) (front rest ts ds) e p ∙ ap (summed x y) in_two

  pub summed_ok : (x y : Float) (u : Sums) → summed x y (stretch s.first stop ts ds) ≡ Ok u → summed u.x u.y (front rest ts ds) ≡ summed x y (window s ts ds)
  summed_ok x y u p = summed_goes x y (stretch s.first stop ts ds) (front rest ts ds) u p ∙ ap (summed x y) in_two

  -- as long as each other
  pub same_runs : (length (part s.first stop ds) ≡ length (part s.first stop ts)) × (length (take rest ds) ≡ length (take rest ts))
  same_runs = (same_parts s.first stop ds ts (h.delays_fit ∙ sym h.times_fit), same_fronts rest ds ts (h.delays_fit ∙ sym h.times_fit))
