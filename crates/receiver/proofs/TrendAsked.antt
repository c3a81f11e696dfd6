-- The trend asks questions 1, 4 and 5 of its own: where the questions before the last one have been answered yes, its number is that of question 5, and so the report's.
use Rattle.std.specs.Prelude.{Result, Ok, Err}
use mathlib.Core.Path.{◌≡◌, refl}
use mathlib.Core.Bool.{Bool, true, false, cond}
use mathlib.Core.List.{List, [], ◌∷◌}
use Prim.Native.Nat.{ℕ}
use lib.Dec.{eqb}
use lib.IntN.{ℤ, pos}
use lib.ListN.{length}
use Rattle.refusals.specs.Answers.{answered, passed, told}
use Rattle.refusals.specs.Questions.{question, first_no}
use Rattle.refusals.specs.Ranges.{clock_ok}
use Rattle.refusals.specs.declared.refusal.Refusal.{Refusal}
use Rattle.algorithms.specs.Owd as owds
use Rattle.algorithms.specs.Owd.{windows_ok, window, samples_ok}
use Rattle.algorithms.specs.OwdTrend.{trend_of, trend_answer}
use Rattle.receiver.specs.State.{keeps_the_rule}
use Rattle.receiver.specs.Reports.{report_refusal}
use Rattle.receiver.specs.declared.ReceiverState.{ReceiverState}
use Rattle.receiver.proofs.QuestionsAnswered.{kept}

module _ (s : ReceiverState) (times : List ℕ) (delays : List ℤ) (now : ℕ) where
  -- the questions before that of the samples
  abbrev pub before_trend : ℕ
  before_trend = first_no (question 1 (keeps_the_rule s) ∷ question 2 (clock_ok now) ∷ question 4 (windows_ok s.owd_trend (length times) (length delays)) ∷ [])

  abbrev all : Bool → Bool → Bool → Bool → ℕ
  all a b w d = cond a (cond b (cond w (cond d 0 5) 4) 2) 1

  abbrev first : Bool → Bool → Bool → ℕ
  first a b w = cond a (cond b (cond w 0 4) 2) 1

  abbrev last : Bool → Bool → Bool → ℕ
  last o w d = cond o (cond w (cond d 0 5) 4) 1

  -- one of them refuses, and so the report
  pub first_refuses : (trend : ℤ) (e : Refusal) → passed before_trend ≡ Err e → Err e ≡ answered (report_refusal s times delays now) trend
  unfolding answered report_refusal first_no
  first_refuses trend e h = go (keeps_the_rule s) (clock_ok now) (windows_ok s.owd_trend (length times) (length delays)) (samples_ok (window s.owd_trend times delays)) h
    where
      go : (a b w d : Bool) → passed (first a b w) ≡ Err e → ◌≡◌ {A = Result ℤ Refusal} (Err e) (answered (all a b w d) trend)
      go false b w d h = cc
      go true false w d h = cc
      go true true false d h = cc
      go true true true d h = absurd cc

  -- none does: then the trend's own questions answer for the report
  pub trend_asked : (u : Unit {0}) → passed before_trend ≡ Ok u → told (trend_answer s.owd_trend times delays) ≡ answered (report_refusal s times delays now) (trend_of (window s.owd_trend times delays))
  unfolding answered report_refusal trend_answer first_no
  trend_asked u h = go (keeps_the_rule s) (owds.keeps_the_rule s.owd_trend) (clock_ok now) (windows_ok s.owd_trend (length times) (length delays)) (samples_ok (window s.owd_trend times delays)) (λ e. (kept s e).window) h
    where
      trend : ℤ
      trend = trend_of (window s.owd_trend times delays)

      go : (a o b w d : Bool) → (a ≡ true → o ≡ true) → passed (first a b w) ≡ Ok u
          → ◌≡◌ {A = Result ℤ Refusal} (answered (last o w d) (cond (eqb (last o w d) 0) trend (pos 0))) (answered (all a b w d) trend)
      go false o b w d f h = absurd cc
      go true o false w d f h = absurd cc
      go true o true false d f h = absurd cc
      go true o true true true f h = rw (f refl) refl
      go true o true true false f h = rw (f refl) refl

  -- the number of the first no is the same, whoever asks question 5
  pub asked_by_trend : first_no (question 1 (keeps_the_rule s) ∷ question 2 (clock_ok now) ∷ question 4 (windows_ok s.owd_trend (length times) (length delays)) ∷ question 5 (eqb (trend_answer s.owd_trend times delays).refusal 0) ∷ []) ≡ report_refusal s times delays now
  unfolding report_refusal trend_answer first_no
  asked_by_trend = go (keeps_the_rule s) (owds.keeps_the_rule s.owd_trend) (clock_ok now) (windows_ok s.owd_trend (length times) (length delays)) (samples_ok (window s.owd_trend times delays)) (λ e. (kept s e).window)
    where
      go : (a o b w d : Bool) → (a ≡ true → o ≡ true)
          → ◌≡◌ {A = ℕ} (cond a (cond b (cond w (cond (eqb (cond o (cond w (cond d 0 5) 4) 1) 0) 0 5) 4) 2) 1) (cond a (cond b (cond w (cond d 0 5) 4) 2) 1)
      go false o b w d f = refl
      go true o false w d f = refl
      go true o true false d f = refl
      go true o true true true f = rw (f refl)
      go true o true true false f = rw (f refl)
