-- What the joined tests of a report show of each question.
use mathlib.Core.Path.{◌≡◌, refl, sym, ◌∙◌}
use mathlib.Core.Bool.{Bool, true, not, ◌&&◌}
use mathlib.Core.List.{List, [], ◌∷◌, foldl}
use Prim.Native.Nat.{ℕ, ◌+◌, ◌-◌, ◌^◌}
use native.Mathlib.Omega.{arith}
use lib.Dec.{T, ltb, leb}
use lib.IntN.{ℤ, pos, negsuc}
use lib.Signed.{le_z}
use lib.Ieee.{Float, binary64, add, le, lt, fits, is_nan}
use lib.Ieee.Fits.{add-fits}
use borrow.Author.Tests.{ltb-true, leb-true, lt-ltb, le-leb}
use Rattle.floats.specs.Operations.{zero_float, one_float, lesser, in_range}
use Rattle.floats.proofs.Tests.{passed}
use Rattle.floats.proofs.Order.{le_transitive, lt→le, compared}
use Rattle.floats.proofs.Ranges.{within→in_range}
use Rattle.floats.proofs.SumsGrow.{addends_within, sum_not_negative, addends_numbers, lesser_number, lesser_not_negative}
use Rattle.refusals.specs.Questions.{question}
use Rattle.refusals.specs.Ranges.{max_clock, max_trend, max_etx, clock_ok, optional_clock_ok, round_trip_ok, counter_ok}
use Rattle.refusals.proofs.Clauses.{left, right}
use Rattle.refusals.proofs.FirstNoFound.{none_refuses}
use Rattle.algorithms.specs.Ewma as ewma
use Rattle.algorithms.specs.Srtt as estimator
use Rattle.algorithms.proofs.EwmaKeepsRule.{Floats}
use Rattle.figures.specs.Goodput.{max_goodput}
use Rattle.metrics.specs.State.{trends_ok, ratios_ok, tallied, keeps_the_rule}
use Rattle.metrics.specs.Reports.{process_refusal}
use Rattle.metrics.specs.declared.MmpMetrics.{MmpMetrics}
use Rattle.metrics.proofs.QuestionsAnswered.{clauses}

-- ---- floats added up, and the least of them
abbrev sum : Float → List Float → Float
sum x xs = foldl (add binary64) x xs

abbrev least : Float → List Float → Float
least x xs = foldl lesser x xs

abbrev Number : Float → Type 0
Number x = T (not (is_nan x))

abbrev Fit : Float → Type 0
Fit x = T (fits binary64 x)

abbrev NotNegative : Float → Type 0
NotNegative x = T (le zero_float x)

abbrev Each : (Float → Type 0) → List Float → Type 0
Each P [] = Unit {0}
Each P (x ∷ xs) = P x × Each P xs

numbers : (x : Float) (xs : List Float) → Number (sum x xs) → Number x × Each Number xs
numbers x [] h = (h, tt)
numbers x (y ∷ xs) h =
    let r = numbers (add binary64 x y) xs h in
    let p = addends_numbers binary64 x y r.0 in
    (p.0, (p.1, r.1))

least_number : (x : Float) (xs : List Float) → Number x × Each Number xs → Number (least x xs)
least_number x [] n = n.0
least_number x (y ∷ xs) n = least_number (lesser x y) xs (lesser_number x y n.0 n.1.0, n.1.1)

low : (x : Float) (xs : List Float) → Number x × Each Number xs → NotNegative (least x xs) → NotNegative x × Each NotNegative xs
low x [] n h = (h, tt)
low x (y ∷ xs) n h =
    let r = low (lesser x y) xs (lesser_number x y n.0 n.1.0, n.1.1) h in
    let p = lesser_not_negative x y n.0 n.1.0 r.0 in
    (p.0, (p.1, r.1))

sum_low : (x : Float) (xs : List Float) → Fit x × Each Fit xs → NotNegative x × Each NotNegative xs → NotNegative (sum x xs)
sum_low x [] f n = n.0
sum_low x (y ∷ xs) f n = sum_low (add binary64 x y) xs (add-fits binary64 x y, f.1.1) (sum_not_negative binary64 x y f.0 f.1.0 n.0 n.1.0, n.1.1)

-- a sum at most hi has addends from 0 to hi
within : (lo hi x : Float) → T (le lo x) → T (le x hi) → in_range lo hi x ≡ true
within lo hi x l h = within→in_range lo hi x (record { low = l; high = h })

high : (hi x : Float) (xs : List Float) → Fit x × Each Fit xs → NotNegative x × Each NotNegative xs → T (le (sum x xs) hi)
    → T (le x hi) × Each (λ y. in_range zero_float hi y ≡ true) xs
high hi x [] f n h = (h, tt)
high hi x (y ∷ xs) f n h =
    let r = high hi (add binary64 x y) xs (add-fits binary64 x y, f.1.1) (sum_not_negative binary64 x y f.0 f.1.0 n.0 n.1.0, n.1.1) h in
    let p = addends_within binary64 x y hi f.0 f.1.0 n.0 n.1.0 r.0 in
    (p.0, (within zero_float hi y n.1.0 p.1, r.1))

-- ---- the floats of a record
-- they are f64
pub record Fits (m : MmpMetrics) : Type 0 where
  pub rtt : Floats m.rtt_trend
  pub loss : Floats m.loss_trend
  pub goodput : Floats m.goodput_trend
  pub jitter : Floats m.jitter_trend
  pub etx : Floats m.etx_trend
  pub rate : T (fits binary64 m.goodput_bps)

module _ (m : MmpMetrics) where
  abbrev short : Float
  short = m.rtt_trend.short

  abbrev more_short : List Float
  more_short = m.loss_trend.short ∷ m.goodput_trend.short ∷ m.jitter_trend.short ∷ m.etx_trend.short ∷ []

  abbrev long : Float
  long = m.rtt_trend.long

  abbrev more_long : List Float
  more_long = m.loss_trend.long ∷ m.goodput_trend.long ∷ m.jitter_trend.long ∷ m.etx_trend.long ∷ []

  abbrev shorts : Float
  shorts = sum short more_short

  abbrev longs : Float
  longs = sum long more_long

  abbrev total : Float
  total = add binary64 (add binary64 shorts longs) m.goodput_bps

  abbrev ends : List Float
  ends = least long more_long ∷ m.delivery_ratio_forward ∷ m.delivery_ratio_reverse ∷ m.goodput_bps ∷ []

  pub floats_near : Fits m
      → le one_float m.etx ≡ true
      → le zero_float (least (least short more_short) ends) ≡ true
      → le total max_trend ≡ true
      → le m.delivery_ratio_forward one_float ≡ true
      → le m.delivery_ratio_reverse one_float ≡ true
      → lt m.etx max_etx ≡ true
      → (trends_ok m ≡ true) × (ratios_ok m ≡ true)
  unfolding trends_ok ratios_ok ewma.keeps_the_rule le
  floats_near f above not_negative sum-within forward reverse below =
      let fwd = m.delivery_ratio_forward in
      let rev = m.delivery_ratio_reverse in
      let rate = m.goodput_bps in
      let most = passed sum-within in
      let numbered = addends_numbers binary64 (add binary64 shorts longs) rate (compared total max_trend most).0 in
      let sums = addends_numbers binary64 shorts longs numbered.0 in
      let ns = numbers short more_short sums.0 in
      let nl = numbers long more_long sums.1 in
      let ne : Each Number ends = (least_number long more_long nl, ((compared fwd one_float (passed forward)).0, ((compared rev one_float (passed reverse)).0, (numbered.1, tt)))) in
      let z = low (least short more_short) ends (least_number short more_short ns, ne) (passed not_negative) in
      let zs = low short more_short ns z.0 in
      let zl = low long more_long nl z.1.0 in
      let fs : Fit short × Each Fit more_short = (f.rtt.short, (f.loss.short, (f.goodput.short, (f.jitter.short, (f.etx.short, tt))))) in
      let fl : Fit long × Each Fit more_long = (f.rtt.long, (f.loss.long, (f.goodput.long, (f.jitter.long, (f.etx.long, tt))))) in
      let s0 = sum_low short more_short fs zs in
      let l0 = sum_low long more_long fl zl in
      let fit-s : Fit shorts = add-fits binary64 _ _ in
      let fit-l : Fit longs = add-fits binary64 _ _ in
      let t = addends_within binary64 (add binary64 shorts longs) rate max_trend (add-fits binary64 shorts longs) f.rate (sum_not_negative binary64 shorts longs fit-s fit-l s0 l0) z.1.1.1.1.0 most in
      let u = addends_within binary64 shorts longs max_trend fit-s fit-l s0 l0 t.0 in
      let hs = high max_trend short more_short fs zs u.0 in
      let hl = high max_trend long more_long fl zl u.1 in (
        rw (
          within zero_float max_trend short zs.0 hs.0,
          within zero_float max_trend long zl.0 hl.0,
          hs.1.0,
          hl.1.0,
          hs.1.1.0,
          hl.1.1.0,
          hs.1.1.1.0,
          hl.1.1.1.0,
          hs.1.1.1.1.0,
          hl.1.1.1.1.0,
        ) refl,
        rw (
          within zero_float one_float fwd z.1.1.0 (passed forward),
          within zero_float one_float rev z.1.1.1.0 (passed reverse),
          within one_float max_etx m.etx (passed above) (lt→le m.etx max_etx (passed below)),
          within zero_float max_goodput rate z.1.1.1.1.0 (le_transitive rate max_trend max_goodput t.1 tt),
        ) refl,
      )

-- ---- the numbers
abbrev far : ℕ
far = 2 ^ 42

near : (ms : ℕ) → ltb ms far ≡ true → clock_ok ms ≡ true
near ms h = let l = ltb-true ms far h in le-leb ms max_clock (omega (arith, l))

pub trip_near : (us : ℤ) → (le_z (pos 0) us && le_z us (pos (2 ^ 42 - 1))) ≡ true → round_trip_ok us ≡ true
trip_near (pos n) h =
    let m = leb-true n (2 ^ 42 - 1) (right (leb 0 n) (leb n (2 ^ 42 - 1)) h) in
    rw (left (leb 0 n) (leb n (2 ^ 42 - 1)) h, le-leb n (2 ^ 42) (omega (arith, m))) refl
trip_near (negsuc n) h = h

abbrev pub Numbers : MmpMetrics → ℕ → Type 0
Numbers m now =
    (optional_clock_ok m.prev_rr_ms ≡ true)
    × (estimator.keeps_the_rule m.srtt ≡ true)
    × (tallied m ≡ true)
    × (clock_ok now ≡ true)
    × (counter_ok 64 m.reports_seen 1 ≡ true)

pub numbers_near : (m : MmpMetrics) (now prev : ℕ) (smoothed variation : Bool) → clock_ok prev ≡ optional_clock_ok m.prev_rr_ms
    → (smoothed ≡ true → variation ≡ true → estimator.keeps_the_rule m.srtt ≡ true)
    → (ltb prev far && ltb now far && ltb m.reports_seen far && smoothed && variation) ≡ true
    → tallied m ≡ true
    → Numbers m now
numbers_near m now prev smoothed variation p s h t =
    let seen = m.reports_seen in
    let y = clauses (ltb prev far) (ltb now far ∷ ltb seen far ∷ smoothed ∷ variation ∷ []) h in
    let few = ltb-true seen far y.1.1.0 in
    (sym p ∙ near prev y.0, s y.1.1.1.0 y.1.1.1.1.0, t, near now y.1.0, lt-ltb (seen + 1) (2 ^ 64) (omega (arith, few)))

-- ---- all of them
rule_kept : (m : MmpMetrics) (now : ℕ) → (trends_ok m ≡ true) × (ratios_ok m ≡ true) → Numbers m now → keeps_the_rule m ≡ true
unfolding keeps_the_rule
rule_kept m now f n = rw (n.0, n.1, f.0, f.1, n.2) refl

pub all_answered : (m : MmpMetrics) (now : ℕ) → (trends_ok m ≡ true) × (ratios_ok m ≡ true) → Numbers m now → process_refusal m now ≡ 0
unfolding process_refusal
all_answered m now f n =
    none_refuses (question 1 (keeps_the_rule m) ∷ question 2 (clock_ok now) ∷ question 10 (counter_ok 64 m.reports_seen 1) ∷ []) (rule_kept m now f n, (n.3, (n.4, tt)))
