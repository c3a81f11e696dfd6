-- The one-way delay window: its rule, its live pairs, and what each call leaves of it. Definitions only.
use Rattle.std.specs.Prelude.{◌≡◌, ℕ, ◌+◌, ◌-◌, ◌<◌, ◌≤◌, min, max, Bool, true, false, cond, ◌&&◌, List, [], ◌∷◌, ◌++◌, length, take, drop, ℤ, ◌==◌, nat_le, nat_lt, slice_set}
use Rattle.limits.specs.Limits.{min_owd_window_size, max_owd_window_size}
use Rattle.refusals.specs.Answers.{Update}
use Rattle.refusals.specs.Questions.{question, first_no}
use Rattle.refusals.specs.Ranges.{delay_ok}
use Rattle.algorithms.specs.declared.owd.OwdTrendDetector.{OwdTrendDetector}

-- ---- the rule: document 01, "State rule"
-- "Capacity is clamped to 2 to 256, and the state rule follows": document 02, W-202
abbrev pub capacity_ok : OwdTrendDetector → Bool
capacity_ok s = nat_le min_owd_window_size s.capacity && nat_le s.capacity max_owd_window_size

-- "live count at most capacity"
abbrev pub count_ok : OwdTrendDetector → Bool
count_ok s = nat_le s.count s.capacity

-- "first slot below it"
abbrev pub first_ok : OwdTrendDetector → Bool
first_ok s = nat_lt s.first s.capacity

-- the three together
unfoldable pub keeps_the_rule : OwdTrendDetector → Bool
keeps_the_rule s = capacity_ok s && count_ok s && first_ok s

-- the same, clause by clause
pub record Rule (s : OwdTrendDetector) : Type 0 where
  pub least : min_owd_window_size ≤ s.capacity
  pub most : s.capacity ≤ max_owd_window_size
  pub count : s.count ≤ s.capacity
  pub first : s.first < s.capacity

-- question 4: both buffers are exactly as long as the capacity
abbrev pub windows_ok : OwdTrendDetector → ℕ → ℕ → Bool
windows_ok s times delays = times == s.capacity && delays == s.capacity

-- a state that keeps its rule, with the buffers of its window
pub record Lent (s : OwdTrendDetector) (times : List ℕ) (delays : List ℤ) : Type 0 where
  pub rule : Rule s
  pub times_fit : length times ≡ s.capacity
  pub delays_fit : length delays ≡ s.capacity

-- ---- the live pairs
-- a sample: its receive time in ms and its delay in µs
pub record Pair : Type 0 where
  pub at_ms : ℕ
  pub owd_us : ℤ

-- the pairs that two lists hold side by side
abbrev pub pairs : List ℕ → List ℤ → List Pair
pairs [] ds = []
pairs (t ∷ ts) [] = []
pairs (t ∷ ts) (d ∷ ds) = record { at_ms = t; owd_us = d } ∷ pairs ts ds

-- what is live of a ring: `count` slots from `first` on, and after the last slot slot 0 again
abbrev pub live : {A : Type 0} → OwdTrendDetector → List A → List A
live s xs = take s.count (drop s.first (xs ++ xs))

-- the live pairs, oldest first: document 01, "Rust forms", `VecDeque` of pairs
unfoldable pub window : OwdTrendDetector → List ℕ → List ℤ → List Pair
window s times delays = pairs (live s times) (live s delays)

-- question 5 of every pair
abbrev pub samples_ok : List Pair → Bool
samples_ok [] = true
samples_ok (p ∷ ps) = delay_ok p.owd_us && samples_ok ps

-- ---- a new window, and a cleared one
-- no live pair, and the first slot 0
abbrev pub empty : ℕ → OwdTrendDetector
empty capacity = record { capacity = capacity; count = 0; first = 0 }

-- the capacity brought into its bounds: algorithms.rs, `OwdTrendDetector::new`
unfoldable pub new_of : ℕ → OwdTrendDetector
new_of capacity = empty (max min_owd_window_size (min capacity max_owd_window_size))

-- the state after a call, or the state as given beside a refusal: document 01, "Before any figure: the checks"
abbrev pub chosen : Bool → OwdTrendDetector → OwdTrendDetector → OwdTrendDetector
chosen true after given = after
chosen false after given = given

-- a call's refusal, and the state that it leaves
abbrev pub update : ℕ → OwdTrendDetector → OwdTrendDetector → Update OwdTrendDetector
update refusal after given = record { refusal = refusal; state = chosen (refusal == 0) after given }

-- "Clearing sets count and first slot to 0 and writes no slot": document 01, "Jitter, delay trend and bursts"
unfoldable pub clear_answer : OwdTrendDetector → Update OwdTrendDetector
clear_answer s = update (first_no (question 1 (keeps_the_rule s) ∷ [])) (empty s.capacity) s

-- ---- a push: "A full window drops its oldest pair": document 01, "Jitter, delay trend and bursts"
-- the slot n after this one, counted past the ring's end again from slot 0
abbrev pub onward : ℕ → ℕ → ℕ → ℕ
onward capacity slot n = cond (nat_lt n (capacity - slot)) (slot + n) (n - (capacity - slot))

-- the slot after the newest pair; where the window is full it is the oldest pair's
unfoldable pub free : OwdTrendDetector → ℕ
free s = onward s.capacity s.first s.count

-- one pair more, and one that is full begins one slot later
unfoldable pub grown : OwdTrendDetector → OwdTrendDetector
grown s =
    chosen (nat_lt s.count s.capacity) (record { capacity = s.capacity; count = s.count + 1; first = s.first })
    (record { capacity = s.capacity; count = s.count; first = onward s.capacity s.first 1 })

-- questions 1, 4 and 5 of a push
unfoldable pub push_refusal : OwdTrendDetector → List ℕ → List ℤ → ℤ → ℕ
push_refusal s times delays us = first_no (question 1 (keeps_the_rule s) ∷ question 4 (windows_ok s (length times) (length delays)) ∷ question 5 (delay_ok us) ∷ [])

-- the state after a push
unfoldable pub push_answer : OwdTrendDetector → List ℕ → List ℤ → ℤ → Update OwdTrendDetector
push_answer s times delays us = update (push_refusal s times delays us) (grown s) s

-- a buffer after a push: x in the free slot, or as it was beside a refusal
unfoldable pub stored : {A : Type 0} → ℕ → OwdTrendDetector → A → List A → List A
stored refusal s x xs = cond (refusal == 0) (slice_set xs (free s) x) xs
