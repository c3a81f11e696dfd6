-- The trend's answer where questions 1 and 4 let it through, and where they refused.
use Rattle.std.proofs.Common.{◌≡◌, ℕ, Bool, true, false, cond, eqb, List, [], ◌∷◌, length, ℤ, pos, refl}
use Rattle.std.specs.Prelude.{Ok, Err, Result}
use Rattle.refusals.specs.Questions.{question, first_no}
use Rattle.refusals.specs.Answers.{answered, numbered, passed, told}
use Rattle.refusals.specs.declared.refusal.Refusal.{Refusal}
use Rattle.refusals.proofs.FirstNoFound.{EachYes, each_yes}
use Rattle.algorithms.specs.Owd.{keeps_the_rule, Lent, windows_ok, window, samples_ok}
use Rattle.algorithms.specs.OwdTrend.{trend_of, live_trend, trend_answer}
use Rattle.algorithms.specs.declared.owd.OwdTrendDetector.{OwdTrendDetector}
use Rattle.algorithms.proofs.OwdGates.{in_order}
use Rattle.refusals.proofs.ResultsSayAll.{passed_zero}

module _ (s : OwdTrendDetector) (ts : List ℕ) (ds : List ℤ) where
  abbrev pub gate : ℕ
  gate = first_no (question 1 (keeps_the_rule s) ∷ question 4 (windows_ok s (length ts) (length ds)) ∷ [])

  in_turn : gate ≡ 0 → (keeps_the_rule s ≡ true) × (windows_ok s (length ts) (length ds) ≡ true)
  in_turn h =
      let qs = question 1 (keeps_the_rule s) ∷ question 4 (windows_ok s (length ts) (length ds)) ∷ [] in
      let y : EachYes qs = each_yes qs refl h in (y.0, y.1.0)

  pub trend_in_order : (u : Unit {0}) → passed gate ≡ Ok u → Lent s ts ds
  trend_in_order u h = let y = in_turn (passed_zero gate u h) in in_order s ts ds y.0 y.1

  pub trend_accepted : (u : Unit {0}) → passed gate ≡ Ok u → told (live_trend (window s ts ds)) ≡ told (trend_answer s ts ds)
  unfolding live_trend trend_answer first_no
  trend_accepted u h = let y = in_turn (passed_zero gate u h) in rw (y.0, y.1) (go (samples_ok (window s ts ds)) (trend_of (window s ts ds)))
    where
      go : (b : Bool) (t : ℤ) → ◌≡◌ {A = Result ℤ Refusal} (answered (cond b 0 5) (cond b t (pos 0))) (answered (cond b 0 5) (cond (eqb (cond b 0 5) 0) t (pos 0)))
      go true t = refl
      go false t = refl

  pub trend_refused : (e : Refusal) → passed gate ≡ Err e → Err e ≡ told (trend_answer s ts ds)
  unfolding trend_answer first_no answered numbered
  trend_refused e h = go (keeps_the_rule s) (windows_ok s (length ts) (length ds)) (samples_ok (window s ts ds)) (trend_of (window s ts ds)) h
    where
      go : (a b d : Bool) (t : ℤ) → passed (cond a (cond b 0 4) 1) ≡ Err e
          → ◌≡◌ {A = Result ℤ Refusal} (Err e) (answered (cond a (cond b (cond d 0 5) 4) 1) (cond (eqb (cond a (cond b (cond d 0 5) 4) 1) 0) t (pos 0)))
      go true true d t h = absurd cc
      go true false d t h = cc
      go false b d t h = cc
