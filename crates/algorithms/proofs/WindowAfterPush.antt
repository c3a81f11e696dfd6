-- What the calls do to the window as a list of pairs: a push appends its pair and drops the oldest of a full window, and writes one slot of each buffer;
-- a cleared window is empty.
use Rattle.std.proofs.Common.{◌≡◌, ℕ, zero, suc, ◌+◌, ◌-◌, ◌<◌, ◌≤◌, Bool, true, false, eqb, ltb, ◌≢◌, ◌⊎◌, List, [], ◌∷◌, ◌++◌, length, get_or, drop, set, ℤ, sym, refl, ap, ◌∙◌, inl, inr, arith, length-append, length-drop, length-set, get_or-drop, get_or-set_other, get_or-take, get_or-set_same, get_or-append-add, ext_get_or, ltb-false, ltb-true}
use lib.ListN.{get_or-append}
use lib.Seq.{get_or-append_seam}
use Rattle.refusals.specs.Questions.{first_no}
use Rattle.refusals.proofs.PickedByTest.{picked}
use Rattle.algorithms.specs.Owd.{keeps_the_rule, Rule, Lent, pairs, live, window, clear_answer, onward, free, grown, push_refusal, push_answer, stored}
use Rattle.algorithms.specs.declared.owd.OwdTrendDetector.{OwdTrendDetector}
use Rattle.algorithms.proofs.OwdRuleKept.{free_below, grown_rule}
use Rattle.algorithms.proofs.OwdGates.{push_in_order}
use Rattle.algorithms.proofs.OwdStretches.{pair, live_length, pairs_append}

-- ---- slots
by_test : (b : Bool) → (b ≡ true) ⊎ (b ≡ false)
by_test true = inl refl
by_test false = inr refl

onward_value : (capacity slot n : ℕ) → ((n < capacity - slot) × (onward capacity slot n ≡ slot + n)) ⊎ ((capacity - slot ≤ n) × (onward capacity slot n ≡ n - (capacity - slot)))
onward_value capacity slot n = elim (by_test (ltb n (capacity - slot))) [ inl e ↦ inl (ltb-true n (capacity - slot) e, rw e refl) | inr e ↦ inr (ltb-false n (capacity - slot) e, rw e refl) ]

-- a ring read twice over
twice_at : {A : Type 0} (xs : List A) (slot n : ℕ) (d : A) → slot < length xs → get_or (xs ++ xs) (slot + n) d ≡ get_or xs (onward (length xs) slot n) d
twice_at xs slot n d h = elim (onward_value (length xs) slot n) [
  | inl (l, e) ↦ get_or-append xs xs d (slot + n) (omega (arith, l)) ∙ ap (λ (k : ℕ). get_or xs k d) (sym e)
  | inr (l, e) ↦
      let split : slot + n ≡ length xs + (n - (length xs - slot)) = omega (arith, l, h) in
      ap (λ (k : ℕ). get_or (xs ++ xs) k d) split ∙ get_or-append-add xs xs (n - (length xs - slot)) d ∙ ap (λ (k : ℕ). get_or xs k d) (sym e)
]

-- the i-th live slot
live_at : {A : Type 0} (s : OwdTrendDetector) (xs : List A) (i : ℕ) (d : A) → s.first < s.capacity → length xs ≡ s.capacity → i < s.count → get_or (live s xs) i d ≡ get_or xs (onward s.capacity s.first i) d
live_at s xs i d f fit h =
    get_or-take s.count (drop s.first (xs ++ xs)) i d h ∙ get_or-drop s.first (xs ++ xs) i d ∙ twice_at xs s.first i d (omega (arith, f, fit)) ∙ ap (λ (n : ℕ). get_or xs (onward n s.first i) d) fit

-- how many pairs a push drops
abbrev pub dropped : OwdTrendDetector → ℕ
dropped s = s.count + 1 - s.capacity

one_on : (capacity first i : ℕ) → first < capacity → i < capacity → onward capacity (onward capacity first 1) i ≡ onward capacity first (1 + i)
one_on capacity first i f h = elim (onward_value capacity first 1) [
  | inl (a, p) ↦ elim (onward_value capacity (onward capacity first 1) i) [
    | inl (b, q) ↦ elim (onward_value capacity first (1 + i)) [ inl (d, t) ↦ omega arith | inr (d, t) ↦ omega arith ]
    | inr (b, q) ↦ elim (onward_value capacity first (1 + i)) [ inl (d, t) ↦ omega arith | inr (d, t) ↦ omega arith ]
  ]
  | inr (a, p) ↦ elim (onward_value capacity (onward capacity first 1) i) [
    | inl (b, q) ↦ elim (onward_value capacity first (1 + i)) [ inl (d, t) ↦ omega arith | inr (d, t) ↦ omega arith ]
    | inr (b, q) ↦ absurd (omega arith)
  ]
]

-- the live slots after a push are those before it less the dropped, and the free one
shape : (s : OwdTrendDetector) → Rule s
    → ((grown s).capacity ≡ s.capacity) × ((grown s).count + dropped s ≡ s.count + 1) × ((i : ℕ) → i < (grown s).count → onward s.capacity (grown s).first i ≡ onward s.capacity s.first (dropped s + i))
unfolding grown
shape s r = elim (by_test (ltb s.count s.capacity)) [
  | inl e ↦ let l = ltb-true s.count s.capacity e in rw e (refl, omega (arith, l), λ i h. ap (λ (n : ℕ). onward s.capacity s.first n) (omega (arith, l)))
  | inr e ↦ let l = ltb-false s.count s.capacity e in rw e (refl, omega (arith, l, r.count), λ i h. one_on s.capacity s.first i r.first (omega (arith, r.count)) ∙ ap (λ (n : ℕ). onward s.capacity s.first (n + i)) (omega (arith, l, r.count)))
]

module _ {A : Type 0} (s : OwdTrendDetector) (xs : List A) (x : A) (r : Rule s) (fit : length xs ≡ s.capacity) where
  -- the slots before the free one are as they were
  others : (i : ℕ) → i < s.count → dropped s ≤ i → onward s.capacity s.first i ≢ free s
  unfolding free
  others i h k e = elim (onward_value s.capacity s.first i) [
    | inl (a, p) ↦ elim (onward_value s.capacity s.first s.count) [ inl (b, q) ↦ omega arith | inr (b, q) ↦ omega (arith, r.count, r.first) ]
    | inr (a, p) ↦ elim (onward_value s.capacity s.first s.count) [ inl (b, q) ↦ omega arith | inr (b, q) ↦ omega (arith, r.count, r.first) ]
  ]

  fit_after : length (set xs (free s) x) ≡ (grown s).capacity
  fit_after = length-set xs (free s) x ∙ fit ∙ sym (shape s r).0

  newest : get_or (set xs (free s) x) (onward s.capacity s.first s.count) x ≡ x
  unfolding free
  newest = get_or-set_same xs (free s) x x (omega (arith, free_below s r, fit))

  pushed_at : (i : ℕ) → i < (grown s).count → get_or (live (grown s) (set xs (free s) x)) i x ≡ get_or (drop (dropped s) (live s xs ++ x ∷ [])) i x
  pushed_at i h =
      let old = live s xs in
      let j = dropped s + i in
      let slot = onward s.capacity s.first j in
      let full = live_length s xs r fit in
      let before : get_or (live (grown s) (set xs (free s) x)) i x ≡ get_or (set xs (free s) x) slot x =
      live_at (grown s) (set xs (free s) x) i x (grown_rule s r).first fit_after h ∙ ap (λ (n : ℕ). get_or (set xs (free s) x) (onward n (grown s).first i) x) (shape s r).0 ∙ ap (λ (n : ℕ). get_or (set xs (free s) x) n x) ((shape s r).2 i h) in
      before
      ∙ elim (by_test (ltb j s.count)) [
        | inl e ↦
            let l = ltb-true j s.count e in
            get_or-set_other xs (free s) slot x x (others j l (omega arith)) ∙ sym (get_or-append old (x ∷ []) x j (omega (arith, full)) ∙ live_at s xs j x r.first fit l)
        | inr e ↦
            let l = ltb-false j s.count e in
            let at : j ≡ s.count = omega (arith, (shape s r).1) in
            ap (λ (n : ℕ). get_or (set xs (free s) x) (onward s.capacity s.first n) x) at ∙ newest ∙ sym (ap (λ (n : ℕ). get_or (old ++ x ∷ []) n x) (at ∙ sym full) ∙ get_or-append_seam old x [] x)
      ]
      ∙ sym (get_or-drop (dropped s) (old ++ x ∷ []) i x)

  pub live_after_push : live (grown s) (set xs (free s) x) ≡ drop (dropped s) (live s xs ++ x ∷ [])
  live_after_push =
      let a : length (live (grown s) (set xs (free s) x)) ≡ (grown s).count = live_length (grown s) (set xs (free s) x) (grown_rule s r) fit_after in
      let b : length (drop (dropped s) (live s xs ++ x ∷ [])) ≡ (grown s).count =
      length-drop (dropped s) (live s xs ++ x ∷ []) ∙ (let e : length (live s xs ++ x ∷ []) ≡ s.count + 1 = length-append (live s xs) (x ∷ []) ∙ ap (λ (n : ℕ). n + 1) (live_length s xs r fit) in omega (arith, (shape s r).1)) in
      ext_get_or x (live (grown s) (set xs (free s) x)) (drop (dropped s) (live s xs ++ x ∷ [])) (a ∙ sym b) (λ i h. pushed_at i (omega (arith, a)))

-- ---- the window
pairs_drop : (k : ℕ) (a : List ℕ) (b : List ℤ) → pairs (drop k a) (drop k b) ≡ drop k (pairs a b)
pairs_drop zero a b = refl
pairs_drop (suc k) [] b = refl
pairs_drop (suc k) (x ∷ a) [] = pairs_none (drop k a)
  where
    pairs_none : (a : List ℕ) → pairs a [] ≡ []
    pairs_none [] = refl
    pairs_none (x ∷ a) = refl
pairs_drop (suc k) (x ∷ a) (y ∷ b) = pairs_drop k a b

-- a pair in the free slot is the window's newest, and a full window has dropped its oldest
pub grown_window : (s : OwdTrendDetector) (ts : List ℕ) (ds : List ℤ) (at : ℕ) (us : ℤ) → Lent s ts ds
    → window (grown s) (set ts (free s) at) (set ds (free s) us) ≡ drop (dropped s) (window s ts ds ++ pair at us ∷ [])
unfolding window
grown_window s ts ds at us h =
    let a = live_length s ts h.rule h.times_fit in
    let b = live_length s ds h.rule h.delays_fit in
    rw (live_after_push s ts at h.rule h.times_fit, live_after_push s ds us h.rule h.delays_fit)
    (pairs_drop (dropped s) (live s ts ++ at ∷ []) (live s ds ++ us ∷ []) ∙ ap (drop (dropped s)) (pairs_append (live s ts) (at ∷ []) (live s ds) (us ∷ []) (a ∙ sym b)))

-- the same of an accepted push
pub push_window : (s : OwdTrendDetector) (ts : List ℕ) (ds : List ℤ) (at : ℕ) (us : ℤ) → push_refusal s ts ds us ≡ 0
    → window (push_answer s ts ds us).state (stored (push_refusal s ts ds us) s at ts) (stored (push_refusal s ts ds us) s us ds) ≡ drop (dropped s) (window s ts ds ++ pair at us ∷ [])
unfolding push_answer stored
push_window s ts ds at us h = rw h (grown_window s ts ds at us (push_in_order s ts ds us h))

-- a cleared window is empty
pub clear_window : (s : OwdTrendDetector) (ts : List ℕ) (ds : List ℤ) → keeps_the_rule s ≡ true → window (clear_answer s).state ts ds ≡ []
unfolding window clear_answer first_no
clear_window s ts ds h = rw h refl

-- ---- the buffers: one slot is written, and no other
module _ {A : Type 0} (refusal : ℕ) (s : OwdTrendDetector) (x : A) (xs : List A) where
  pub stored_elsewhere : (i : ℕ) (d : A) → i ≢ free s → get_or (stored refusal s x xs) i d ≡ get_or xs i d
  unfolding stored
  stored_elsewhere i d n = picked (λ ys. get_or ys i d ≡ get_or xs i d) (eqb refusal 0) (λ e. get_or-set_other xs (free s) i x d n) (λ e. refl)

  pub stored_there : (d : A) → refusal ≡ 0 → Rule s → length xs ≡ s.capacity → get_or (stored refusal s x xs) (free s) d ≡ x
  unfolding stored
  stored_there d e r fit = rw e (get_or-set_same xs (free s) x d (omega (arith, free_below s r)))
