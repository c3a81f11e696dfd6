-- A call's result says all that its answer does: the refusal's number, and the value, which is zero, no or none on a refusal.
use mathlib.Core.Path.{◌≡◌, refl, sym, ap}
use mathlib.Core.Bool.{Bool, true, false, true≢false, cond, ◌&&◌, and-eq-true_iff}
use mathlib.Core.List.{List, [], ◌∷◌}
use Prim.Native.Nat.{ℕ, zero, suc}
use lib.Dec.{leb, eqb}
use native.Mathlib.Omega.{arith}
use borrow.Author.Tests.{leb-true, eqb-true}
use Rattle.std.specs.Prelude.{Result, Ok, Err}
use Rattle.refusals.specs.Answers.{number, numbered, answered, passed, admitted, answer, told, refusal_in, value_in}
use Rattle.refusals.specs.Questions.{Question, first_no}
use Rattle.refusals.specs.declared.refusal.Refusal.{Refusal}
use Rattle.refusals.specs.declared.refusal.Refusal.TheVariants.{State, Clocks, FrameSize, Windows, DelaySamples, OutputBuffer, Payload, RoundTrip, IntervalBounds, Counters, Values}

-- ---- numbers and refusals are one to one
pub numbered_number : (r : Refusal) → numbered (number r) ≡ r
unfolding numbered
numbered_number State = refl
numbered_number Clocks = refl
numbered_number FrameSize = refl
numbered_number Windows = refl
numbered_number DelaySamples = refl
numbered_number OutputBuffer = refl
numbered_number Payload = refl
numbered_number RoundTrip = refl
numbered_number IntervalBounds = refl
numbered_number Counters = refl
numbered_number Values = refl

too_great : (n : ℕ) → leb (suc (suc (suc (suc (suc (suc (suc (suc (suc (suc (suc (suc n)))))))))))) 11 ≡ true → ⊥
too_great n h = omega (arith, leb-true (suc (suc (suc (suc (suc (suc (suc (suc (suc (suc (suc (suc n)))))))))))) 11 h)

pub number_numbered : (n : ℕ) → leb n 11 ≡ true → eqb n 0 ≡ false → number (numbered n) ≡ n
unfolding numbered
number_numbered zero h ne = absurd (true≢false ne)
number_numbered (suc zero) h ne = refl
number_numbered (suc (suc zero)) h ne = refl
number_numbered (suc (suc (suc zero))) h ne = refl
number_numbered (suc (suc (suc (suc zero)))) h ne = refl
number_numbered (suc (suc (suc (suc (suc zero))))) h ne = refl
number_numbered (suc (suc (suc (suc (suc (suc zero)))))) h ne = refl
number_numbered (suc (suc (suc (suc (suc (suc (suc zero))))))) h ne = refl
number_numbered (suc (suc (suc (suc (suc (suc (suc (suc zero)))))))) h ne = refl
number_numbered (suc (suc (suc (suc (suc (suc (suc (suc (suc zero))))))))) h ne = refl
number_numbered (suc (suc (suc (suc (suc (suc (suc (suc (suc (suc zero)))))))))) h ne = refl
number_numbered (suc (suc (suc (suc (suc (suc (suc (suc (suc (suc (suc zero))))))))))) h ne = refl
number_numbered (suc (suc (suc (suc (suc (suc (suc (suc (suc (suc (suc (suc n)))))))))))) h ne = absurd (too_great n h)

-- ---- a result, by the number
pub refusal_kept : {A : Type 0} (n : ℕ) (x : A) → leb n 11 ≡ true → refusal_in (answered n x) ≡ n
unfolding answered
refusal_kept n x h = go (eqb n 0) refl
  where
    go : (b : Bool) → eqb n 0 ≡ b → refusal_in (cond b (Ok x) (Err (numbered n))) ≡ n
    go true e = sym (eqb-true n 0 e)
    go false e = number_numbered n h e

-- ---- every question has one of the numbers
abbrev pub each_known : List Question → Bool
each_known [] = true
each_known (q ∷ qs) = leb q.number 11 && each_known qs

picked_known : (n k : ℕ) (b : Bool) → leb n 11 ≡ true → leb k 11 ≡ true → leb (cond b k n) 11 ≡ true
picked_known n k true hn hk = hk
picked_known n k false hn hk = hn

pub known : (qs : List Question) → each_known qs ≡ true → leb (first_no qs) 11 ≡ true
unfolding first_no
known [] h = refl
known (q ∷ qs) h = let b = (and-eq-true_iff (leb q.number 11) (each_known qs)).0 h in picked_known q.number (first_no qs) q.answer b.0 (known qs b.1)

-- ---- an accessor's result
pub value_kept : {A : Type 0} (nothing : A) (n : ℕ) (x : A) → value_in nothing (told (answer nothing n x)) ≡ (answer nothing n x).value
unfolding answered answer
value_kept nothing n x = go (eqb n 0)
  where
    go : (b : Bool) → value_in nothing (cond b (Ok (cond b x nothing)) (Err (numbered n))) ≡ cond b x nothing
    go true = refl
    go false = refl

-- ---- past the questions nothing has refused
abbrev ok_there : {A E : Type 0} → Result A E → Bool
ok_there (Ok x) = true
ok_there (Err e) = false

picked_ok : {A E : Type 0} (b : Bool) (x : A) (e : E) → true ≡ ok_there (cond b (Ok x) (Err e)) → b ≡ true
picked_ok true x e h = refl
picked_ok false x e h = absurd (true≢false h)

pub past : {S : Type 0} (n : ℕ) (s : S) (u : Unit {0}) → Ok u ≡ admitted n s → n ≡ 0
unfolding admitted
past n s u h = eqb-true n 0 (picked_ok (eqb n 0) tt (record { refusal = numbered n; state = s }) (ap ok_there h))

pub passed_zero : (n : ℕ) (u : Unit {0}) → passed n ≡ Ok u → n ≡ 0
unfolding answered
passed_zero n u h = eqb-true n 0 (picked_ok (eqb n 0) tt (numbered n) (ap ok_there (sym h)))
