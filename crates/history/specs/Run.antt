-- Lists of calls on a world of records, each of which may be refused; written out call by call; with calls struck out. Nothing here knows what
-- the calls are. A list of calls runs from the first one on, as do the round trips and differences read off it; the log of the accepted calls has the latest
-- first. Definitions only.
use Rattle.std.specs.Prelude.{Bool, cond, ◌&&◌, List, [], ◌∷◌, map, ◌≢◌, ℕ, zero, suc}

-- a call's refusal number (0: none), its answer, and the record that it hands back
pub record Step (Answer State : Type 0) : Type 0 where
  pub refusal : ℕ
  pub answer : Answer
  pub state : State

-- the record that a log of calls reaches from a new one, each call getting it as the one before handed it back
unfoldable pub run_of : {Call Answer State : Type 0} → (Call → State → Step Answer State) → State → List Call → State
run_of step new [] = new
run_of step new (c ∷ l) = (step c (run_of step new l)).state

-- World holds the records. Log holds the accepted calls: `note` sees their arguments and never a record.
pub record Machine : Type 1 where
  pub World : Type 0
  pub Log : Type 0
  pub Call : Type 0
  pub Answer : Type 0
  -- a call with its refusal number, after the calls noted, may stand in a list
  pub Fits : Call → ℕ → Log → Type 0
  pub step : Call → World → Step Answer World
  pub note : Call → Log → Log

-- a call with its refusal number and its answer, and the log before it
pub record Entry (𝓜 : Machine) : Type 0 where
  pub call : 𝓜.Call
  pub refusal : ℕ
  pub answer : 𝓜.Answer
  pub before : 𝓜.Log

-- all elements keep P
pub data All {A : Type 0} (P : A → Type 0) : List A → Type 0 where
  all_nil : All P []
  all_cons : {a : A} {l : List A} → P a → All P l → All P (a ∷ l)

module _ (𝓜 : Machine) where
  -- a call that is refused, by a number above 0, is not noted
  abbrev pub noted : 𝓜.Call → ℕ → 𝓜.Log → 𝓜.Log
  noted c zero x = 𝓜.note c x
  noted c (suc n) x = x

  abbrev pub entry : 𝓜.Call → 𝓜.World → 𝓜.Log → Entry 𝓜
  entry c w x = record { call = c; refusal = (𝓜.step c w).refusal; answer = (𝓜.step c w).answer; before = x }

  -- the list written out: each call gets the records as the call before handed them back
  unfoldable pub written_from : 𝓜.World → 𝓜.Log → List 𝓜.Call → List (Entry 𝓜)
  written_from w x [] = []
  written_from w x (c ∷ h) = entry c w x ∷ written_from (𝓜.step c w).state (noted c (𝓜.step c w).refusal x) h

  -- the records at its end
  unfoldable pub reached_from : 𝓜.World → List 𝓜.Call → 𝓜.World
  reached_from w [] = w
  reached_from w (c ∷ h) = reached_from (𝓜.step c w).state h

  -- the log at its end
  unfoldable pub accepted_from : 𝓜.Log → List (Entry 𝓜) → 𝓜.Log
  accepted_from x [] = x
  accepted_from x (n ∷ ns) = accepted_from (noted n.call n.refusal x) ns

  -- the entry may stand in a list
  abbrev pub fits : Entry 𝓜 → Type 0
  fits n = 𝓜.Fits n.call n.refusal n.before

  -- the call did not meet 10
  abbrev pub not_full : Entry 𝓜 → Type 0
  not_full n = n.refusal ≢ 10

-- ---- striking out
-- an entry that is left, and what was struck out before it
pub record Left (𝓜 : Machine) (Struck : Type 0) : Type 0 where
  pub entry : Entry 𝓜
  pub struck : Struck

-- a call with its refusal and its answer
pub record Shown (𝓜 : Machine) : Type 0 where
  pub call : 𝓜.Call
  pub refusal : ℕ
  pub answer : 𝓜.Answer

module _ (𝓜 : Machine) {Struck : Type 0} where
  -- the entries without those at the places given that may be struck; `more` counts one that is
  module _ (more : 𝓜.Call → Struck → Struck) (may : Entry 𝓜 → Bool) where
    unfoldable pub left_from : (ℕ → Bool) → Struck → List (Entry 𝓜) → List (Left 𝓜 Struck)
    left_from places t [] = []
    left_from places t (n ∷ ns) =
        cond (places 0 && may n) (left_from (λ i. places (suc i)) (more n.call t) ns) (record { entry = n; struck = t } ∷ left_from (λ i. places (suc i)) t ns)

    -- what was struck out in all
    unfoldable pub struck_from : (ℕ → Bool) → Struck → List (Entry 𝓜) → Struck
    struck_from places t [] = t
    struck_from places t (n ∷ ns) = cond (places 0 && may n) (struck_from (λ i. places (suc i)) (more n.call t) ns) (struck_from (λ i. places (suc i)) t ns)

  -- the calls that are left, with their arguments
  abbrev pub calls_left : List (Left 𝓜 Struck) → List 𝓜.Call
  calls_left ls = map (λ (l : Left 𝓜 Struck). l.entry.call) ls

  -- what they had answered
  abbrev pub as_they_were : List (Left 𝓜 Struck) → List (Shown 𝓜)
  as_they_were ls = map (λ (l : Left 𝓜 Struck). record { call = l.entry.call; refusal = l.entry.refusal; answer = l.entry.answer }) ls

  -- what they answer without the others, each answer with what was struck out before it put back by `restore`
  unfoldable pub restored : (Struck → 𝓜.Call → ℕ → 𝓜.Answer → 𝓜.Answer) → List (Left 𝓜 Struck) → List (Entry 𝓜) → List (Shown 𝓜)
  restored restore [] ns = []
  restored restore (l ∷ ls) [] = []
  restored restore (l ∷ ls) (n ∷ ns) = record { call = n.call; refusal = n.refusal; answer = restore l.struck n.call n.refusal n.answer } ∷ restored restore ls ns
