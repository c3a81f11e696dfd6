-- Trends stay within their rule through rounding.
use Rattle.std.proofs.Common.{◌≡◌, ℕ, Bool, true, false, T, [], ◌∷◌, refl}
use mathlib.Core.Bool.{and-eq-true_iff}
use lib.Ieee.{Float, binary64, fits, le}
use Rattle.limits.specs.Limits.{ewma_short_alpha, ewma_long_alpha}
use Rattle.floats.specs.Operations.{zero_float, weight, step}
use Rattle.floats.proofs.Ranges.{Within, in_range→within, within→in_range}
use Rattle.floats.proofs.Smoothing.{step_fits, ewma_within}
use Rattle.refusals.specs.Questions.{question}
use Rattle.refusals.specs.Ranges.{max_trend, trend_ok}
use Rattle.refusals.proofs.FirstNoFound.{each_yes}
use Rattle.algorithms.specs.Ewma.{keeps_the_rule, fresh, moved, stepped, update_refusal, update_of}
use Rattle.algorithms.specs.declared.ewma.DualEwma.{DualEwma}

-- both trends are f64
pub record Floats (s : DualEwma) : Type 0 where
  pub short : T (fits binary64 s.short)
  pub long : T (fits binary64 s.long)

-- a value that a trend may have
pub record Trend (x : Float) : Type 0 where
  pub float : T (fits binary64 x)
  pub within : Within zero_float max_trend x

-- ---- what the rule and the questions tell
-- the rule's clauses by name
pub record Kept (s : DualEwma) : Type 0 where
  pub short : trend_ok s.short ≡ true
  pub long : trend_ok s.long ≡ true

pub kept : (s : DualEwma) → keeps_the_rule s ≡ true → Kept s
unfolding keeps_the_rule
kept s h = let p = (and-eq-true_iff (trend_ok s.short) (trend_ok s.long)).0 h in record { short = p.0; long = p.1 }

keeps : (s : DualEwma) → Trend s.short → Trend s.long → keeps_the_rule s ≡ true
unfolding keeps_the_rule
keeps s short long =
    (and-eq-true_iff (trend_ok s.short) (trend_ok s.long)).1
    (within→in_range zero_float max_trend s.short short.within, within→in_range zero_float max_trend s.long long.within)

pub trend : (x : Float) → T (fits binary64 x) → trend_ok x ≡ true → Trend x
trend x f h = record { float = f; within = in_range→within zero_float max_trend x h }

-- nothing refused: the rule is kept, and the sample is in range
pub update_asked : (s : DualEwma) (x : Float) → update_refusal s x ≡ 0 → (keeps_the_rule s ≡ true) × (trend_ok x ≡ true)
unfolding update_refusal
update_asked s x h = let y = each_yes (question 1 (keeps_the_rule s) ∷ question 11 (trend_ok x) ∷ []) refl h in (y.0, y.1.0)

-- ---- one trend of the weight 2 ^ -(n + 1)
trend_kept : (n : ℕ) {s x : Float} → Trend s → Trend x → Trend (step binary64 (weight n) s x)
unfolding le
trend_kept n {s} {x} p q = record { float = step_fits binary64 (weight n) s x; within = ewma_within binary64 n p.float q.float tt tt p.within q.within }

-- ---- both trends
moved_keeps_rule : (begun : Bool) {s l x : Float} → Trend s → Trend l → Trend x → keeps_the_rule (moved begun s l x) ≡ true
moved_keeps_rule false {s} {l} {x} ps pl px = keeps (moved false s l x) px px
moved_keeps_rule true {s} {l} {x} ps pl px = keeps (moved true s l x) (trend_kept _ ps px) (trend_kept _ pl px)

moved_floats : (begun : Bool) (s l x : Float) → T (fits binary64 x) → Floats (moved begun s l x)
moved_floats false s l x f = record { short = f; long = f }
moved_floats true s l x f = record { short = step_fits binary64 ewma_short_alpha s x; long = step_fits binary64 ewma_long_alpha l x }

pub fresh_keeps_rule : keeps_the_rule fresh ≡ true
unfolding keeps_the_rule le
fresh_keeps_rule = refl

pub step_keeps_rule : (s : DualEwma) (x : Float) → Floats s → T (fits binary64 x) → keeps_the_rule s ≡ true → trend_ok x ≡ true → keeps_the_rule (stepped s x) ≡ true
unfolding stepped
step_keeps_rule s x f fx h k =
    let p = kept s h in
    moved_keeps_rule s.initialized (trend s.short f.short p.short) (trend s.long f.long p.long) (trend x fx k)

-- f64 stay f64
pub step_floats : (s : DualEwma) (x : Float) → T (fits binary64 x) → Floats (stepped s x)
unfolding stepped
step_floats s x fx = moved_floats s.initialized s.short s.long x fx

-- an accepted update ends within the rule
pub update_keeps_rule : (s : DualEwma) (x : Float) → Floats s → T (fits binary64 x) → (update_of s x).refusal ≡ 0 → keeps_the_rule (update_of s x).state ≡ true
unfolding update_of
update_keeps_rule s x f fx h = let y = update_asked s x h in rw h (step_keeps_rule s x f fx y.0 y.1)
