-- What a call answers: document 01, "Before any figure: the checks", "A refusal returns its number and the state as given; other result fields are zero, no or none". Definitions only.
use Rattle.std.specs.Prelude.{◌≡◌, ◌≢◌, cond, ℕ, eqb, Result, Ok, Err, MatchResult}
use Rattle.refusals.specs.declared.refusal.Refusal.{Refusal}
use Rattle.refusals.specs.declared.refusal.Refusal.TheVariants.{State, Clocks, FrameSize, Windows, DelaySamples, OutputBuffer, Payload, RoundTrip, IntervalBounds, Counters, Values}
use Rattle.refusals.specs.declared.refusal.NoQuestion.{NoQuestion}
use Rattle.refusals.specs.declared.refusal.Refused.{Refused}

-- ---- refusals
-- the question's number: document 01, "Before any figure: the checks"
abbrev pub number : Refusal → ℕ
number State = 1
number Clocks = 2
number FrameSize = 3
number Windows = 4
number DelaySamples = 5
number OutputBuffer = 6
number Payload = 7
number RoundTrip = 8
number IntervalBounds = 9
number Counters = 10
number Values = 11

-- the refusal of that number
unfoldable pub numbered : ℕ → Refusal
numbered n =
    cond (eqb n 1) State
    (cond (eqb n 2) Clocks
    (cond (eqb n 3) FrameSize
    (cond (eqb n 4) Windows
    (cond (eqb n 5) DelaySamples
    (cond (eqb n 6) OutputBuffer
    (cond (eqb n 7) Payload
    (cond (eqb n 8) RoundTrip
    (cond (eqb n 9) IntervalBounds
    (cond (eqb n 10) Counters Values)))))))))

-- the result is the refusal with this number, or an error with a number that none has
abbrev pub Decodes : ℕ → Result Refusal NoQuestion → Type 0
Decodes n r = MatchResult r (λ refusal. number refusal ≡ n) (λ e. (e.0 ≡ n) × ((refusal : Refusal) → number refusal ≢ n))

-- ---- answers
-- a call's result: the value, or the refusal of the number. 0 refuses nothing
unfoldable pub answered : {A : Type 0} → ℕ → A → Result A Refusal
answered n x = cond (eqb n 0) (Ok x) (Err (numbered n))

-- a call with no value to answer
abbrev pub passed : ℕ → Result (Unit {0}) Refusal
passed n = answered n tt

-- a refusal's number, 0 for none, and a value, which is zero, no or none on a refusal
pub record Answer (A : Type 0) : Type 0 where
  pub refusal : ℕ
  pub value : A

-- the value where nothing refuses, else zero, no or none
unfoldable pub answer : {A : Type 0} → A → ℕ → A → Answer A
answer nothing n x = record { refusal = n; value = cond (eqb n 0) x nothing }

-- the same as the call's result
abbrev pub told : {A : Type 0} → Answer A → Result A Refusal
told a = answered a.refusal a.value

-- a refusal's number, 0 for none, and the record as the call leaves it: as given on a refusal
pub record Update (S : Type 0) : Type 0 where
  pub refusal : ℕ
  pub state : S

-- what the questions give a call that is handed a record
unfoldable pub admitted : {S : Type 0} → ℕ → S → Result (Unit {0}) (Refused S)
admitted n s = cond (eqb n 0) (Ok tt) (Err (record { refusal = numbered n; state = s }))

-- what a call that moves a record gives by value: the record after it, or the refusal of the number with the record as given. A constructor's is the default one
unfoldable pub settled : {S : Type 0} → Update S → Result S (Refused S)
settled u = cond (eqb u.refusal 0) (Ok u.state) (Err (record { refusal = numbered u.refusal; state = u.state }))

-- the same with an answer beside the record
unfoldable pub settled_with : {S A : Type 0} → ℕ → S → A → Result (S × A) (Refused S)
settled_with n s x = cond (eqb n 0) (Ok (s, x)) (Err (record { refusal = numbered n; state = s }))

-- ---- what a result says
-- the number of its refusal, 0 for none
abbrev pub refusal_in : {A : Type 0} → Result A Refusal → ℕ
refusal_in (Ok x) = 0
refusal_in (Err e) = number e

-- its value; zero, no or none on a refusal
abbrev pub value_in : {A : Type 0} → A → Result A Refusal → A
value_in nothing (Ok x) = x
value_in nothing (Err e) = nothing
