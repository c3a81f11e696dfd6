-- The tracker's calls behind their questions: document 01, "Before any figure: the checks". Definitions only.
use Rattle.std.specs.Prelude.{cond, [], ◌∷◌, ℕ, eqb, Result}
use Rattle.refusals.specs.Answers.{settled, settled_with}
use Rattle.refusals.specs.Questions.{question, first_no}
use Rattle.refusals.specs.declared.refusal.Refused.{Refused}
use Rattle.gaps.specs.Gaps.{keeps_the_rule, bursts_ok, burst_finished, observed}
use Rattle.gaps.specs.Stats.{stats_of}
use Rattle.gaps.specs.declared.Arrival.{Arrival}
use Rattle.gaps.specs.declared.Arrival.TheVariants.{First}
use Rattle.gaps.specs.declared.GapTracker.{GapTracker}
use Rattle.gaps.specs.declared.checked.BurstStats.{BurstStats}

-- where the frame observed stands, `First` beside a refusal, and the tracker after it
pub record GapObserved : Type 0 where
  pub refusal : ℕ
  pub arrival : Arrival
  pub tracker : GapTracker

-- a tracker after a call that may refuse
pub record GapUpdate : Type 0 where
  pub refusal : ℕ
  pub tracker : GapTracker

-- an interval's bursts, 0 beside a refusal, and the tracker for the next interval
pub record GapStats : Type 0 where
  pub refusal : ℕ
  pub count : ℕ
  pub max : ℕ
  pub mean : ℕ
  pub tracker : GapTracker

-- question 1 alone
unfoldable pub refusal_of : GapTracker → ℕ
refusal_of t = first_no (question 1 (keeps_the_rule t) ∷ [])

-- questions 1 and 10
unfoldable pub observe_refusal : GapTracker → ℕ → ℕ
observe_refusal t counter = first_no (question 1 (keeps_the_rule t) ∷ question 10 (bursts_ok t counter) ∷ [])

-- a frame whose refusal is n: where it stands and the tracker after it; `First`, the case before all others, and the tracker as given on a refusal
abbrev pub observed_by : ℕ → GapTracker → ℕ → GapObserved
observed_by n t counter = record { refusal = n; arrival = cond (eqb n 0) (observed t counter).arrival First; tracker = cond (eqb n 0) (observed t counter).tracker t }

unfoldable pub observe_of : GapTracker → ℕ → GapObserved
observe_of t counter = observed_by (observe_refusal t counter) t counter

-- the burst under way ends
unfoldable pub finish_of : GapTracker → GapUpdate
finish_of t = record { refusal = refusal_of t; tracker = cond (eqb (refusal_of t) 0) (burst_finished t) t }

-- an interval's bursts where the refusal is n: the figures, and nothing counted in the next; zeros and the tracker as given on a refusal
abbrev pub taken_by : ℕ → GapTracker → GapStats
taken_by n t =
    record {
      refusal = n;
      count = cond (eqb n 0) (stats_of t).count 0;
      max = cond (eqb n 0) (stats_of t).max 0;
      mean = cond (eqb n 0) (stats_of t).mean 0;
      tracker = cond (eqb n 0) (stats_of t).tracker t;
    }

unfoldable pub take_of : GapTracker → GapStats
take_of t = taken_by (refusal_of t) t

-- ---- the same as the calls' results
abbrev pub observed_as : GapObserved → Result (GapTracker × Arrival) (Refused GapTracker)
observed_as o = settled_with o.refusal o.tracker o.arrival

abbrev pub finished_as : GapUpdate → Result GapTracker (Refused GapTracker)
finished_as u = settled (record { refusal = u.refusal; state = u.tracker })

abbrev pub taken_as : GapStats → Result (GapTracker × BurstStats) (Refused GapTracker)
taken_as s = settled_with s.refusal s.tracker (record { count = s.count; max = s.max; mean = s.mean })
