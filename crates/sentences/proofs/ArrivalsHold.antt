-- WHERE A FRAME STANDS is answered by the expected counter, which follows from the counters of the frames before.
use Rattle.std.specs.Prelude.{None, Option, Some}
use mathlib.Core.Path.{◌≡◌, refl, ap, ◌∙◌}
use mathlib.Core.Bool.{Bool, true, false, cond}
use mathlib.Core.List.{List, [], ◌∷◌}
use Prim.Native.Nat.{ℕ, ◌+◌, ◌-◌, ◌≤◌, ◌<◌, ◌^◌, min, max}
use native.Mathlib.Omega.{arith}
use lib.Dec.{ltb}
use borrow.Author.Tests.{ltb-true, ltb-false}
use Rattle.gaps.specs.Gaps as gaps
use Rattle.gaps.specs.Checked.{observe_of}
use Rattle.gaps.proofs.DueFollows.{due_follows}
use Rattle.gaps.specs.declared.Arrival.{Arrival}
use Rattle.gaps.specs.declared.Arrival.TheVariants.{First, InSequence, Gap, Behind}
use Rattle.gaps.specs.declared.GapTracker.{GapTracker}
use Rattle.sentences.specs.Arrivals.{Stands, Lost, due_after}
use Rattle.sentences.specs.Bursts.{greatest}
use Rattle.sentences.proofs.BurstsHold.{after}

-- two cases of an enum are not one
never : {A : Type 0} → ◌≡◌ {A = ℕ} 0 1 → A
never e = absurd (omega arith)

module _ (expected counter : ℕ) where
  same : (n : ℕ) → Some expected ≡ Some n → expected ≡ n
  same n e = cc

  gap_stands : expected < counter → Stands (Some expected) counter (Gap (counter - expected))
  gap_stands h =
      record {
        first = (λ e. never cc, λ e. never cc);
        in_sequence = (λ e. never cc, λ e. let m = same counter e in absurd (omega arith));
        gap = λ n. (
          λ e. let m : counter - expected ≡ n = cc in record { expected = expected; came = refl; apart = omega arith; some = omega arith },
          λ p. let m = same p.expected p.came in let a = p.apart in let d : counter - expected ≡ n = omega arith in ap Gap d,
        );
        behind = λ n. (λ e. never cc, λ p. let m = same p.expected p.came in let a = p.apart in absurd (omega arith));
      }

  behind_stands : counter < expected → Stands (Some expected) counter (Behind (expected - counter))
  behind_stands h =
      record {
        first = (λ e. never cc, λ e. never cc);
        in_sequence = (λ e. never cc, λ e. let m = same counter e in absurd (omega arith));
        gap = λ n. (λ e. never cc, λ p. let m = same p.expected p.came in let a = p.apart in absurd (omega arith));
        behind = λ n. (
          λ e. let m : expected - counter ≡ n = cc in record { expected = expected; came = refl; apart = omega arith; some = omega arith },
          λ p. let m = same p.expected p.came in let a = p.apart in let d : expected - counter ≡ n = omega arith in ap Behind d,
        );
      }

  sequence_stands : expected ≡ counter → Stands (Some expected) counter InSequence
  sequence_stands h =
      record {
        first = (λ e. never cc, λ e. never cc);
        in_sequence = (λ e. ap Some h, λ e. refl);
        gap = λ n. (λ e. never cc, λ p. let m = same p.expected p.came in let a = p.apart in let b = p.some in absurd (omega arith));
        behind = λ n. (λ e. never cc, λ p. let m = same p.expected p.came in let a = p.apart in let b = p.some in absurd (omega arith));
      }

first_stands : (counter : ℕ) → Stands None counter First
first_stands counter =
    record {
      first = (λ e. refl, λ e. refl);
      in_sequence = (λ e. never cc, λ e. never cc);
      gap = λ n. (λ e. never cc, λ p. let c = p.came in never cc);
      behind = λ n. (λ e. never cc, λ p. let c = p.came in never cc);
    }

stands : (due : Option ℕ) (counter : ℕ) → Stands due counter (gaps.arrival_at due counter)
unfolding gaps.arrival_after
stands None counter = first_stands counter
stands (Some expected) counter = go (ltb expected counter) (ltb counter expected) (ltb-true expected counter) (ltb-false expected counter) (ltb-true counter expected) (ltb-false counter expected)
  where
    go : (above below : Bool) → (above ≡ true → expected < counter) → (above ≡ false → counter ≤ expected) → (below ≡ true → counter < expected) → (below ≡ false → expected ≤ counter) →
        Stands (Some expected) counter (cond above (Gap (counter - expected)) (cond below (Behind (expected - counter)) InSequence))
    go true below a na b nb = gap_stands expected counter (a refl)
    go false true a na b nb = behind_stands expected counter (b refl)
    go false false a na b nb = let p = na refl in let q = nb refl in sequence_stands expected counter (omega arith)

-- THE ANSWER, of any tracker and any counter that is not refused: "behind by n" exactly where a frame came before and the counter is n below the expected one, n at least 1
pub arrival_told : (t : GapTracker) (counter : ℕ) → (observe_of t counter).refusal ≡ 0 → Stands t.expected_next counter (observe_of t counter).arrival
unfolding observe_of gaps.observed
arrival_told t counter h = rw h (stands t.expected_next counter)

-- the commit's number
pub lost_told : (a : Arrival) → Lost a (gaps.lost_before a)
lost_told First = record { gap = λ n e. never cc; first = λ e. refl; in_sequence = λ e. refl; behind = λ n e. refl }
lost_told InSequence = record { gap = λ n e. never cc; first = λ e. refl; in_sequence = λ e. refl; behind = λ n e. refl }
lost_told (Gap m) = record { gap = λ n e. cc; first = λ e. never cc; in_sequence = λ e. never cc; behind = λ n e. never cc }
lost_told (Behind m) = record { gap = λ n e. never cc; first = λ e. refl; in_sequence = λ e. refl; behind = λ n e. refl }

-- the expected counter, whatever order the frames came in
due_after_lem : (counters : List ℕ) (t : GapTracker) (highest : ℕ) → t.expected_next ≡ Some (min (highest + 1) (2 ^ 64 - 1)) →
    (after t counters).expected_next ≡ Some (min (max highest (greatest counters) + 1) (2 ^ 64 - 1))
unfolding greatest gaps.observed
due_after_lem [] t highest e = let m : min (highest + 1) (2 ^ 64 - 1) ≡ min (max highest 0 + 1) (2 ^ 64 - 1) = omega arith in e ∙ ap Some m
due_after_lem (counter ∷ counters) t highest e =
    let m : min (max (max highest counter) (greatest counters) + 1) (2 ^ 64 - 1) ≡ min (max highest (max counter (greatest counters)) + 1) (2 ^ 64 - 1) = omega arith in
    due_after_lem counters (gaps.tracked_after t.expected_next t counter) (max highest counter)
    (ap (λ (o : Option ℕ). (gaps.tracked_after o t counter).expected_next) e ∙ ap Some (due_follows highest counter))
    ∙ ap Some m

pub due_told : (counter : ℕ) (counters : List ℕ) → (after gaps.fresh (counter ∷ counters)).expected_next ≡ Some (due_after counter counters)
unfolding gaps.observed greatest
due_told counter counters = due_after_lem counters (gaps.observed gaps.fresh counter).tracker counter refl
