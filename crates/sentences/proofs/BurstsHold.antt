-- THE BURSTS IN A REPORT are those of the gaps between the counters of the interval's frames.
use Rattle.std.specs.Prelude.{Option, Some}
use Prim.Native.Nat.{ℕ, zero, suc, ◌+◌, ◌-◌, ◌*◌, ◌/◌, ◌^◌, ◌≤◌, ◌<◌, min, max}
use mathlib.Core.Path.{◌≡◌, refl, ap, ap₂, ◌∙◌}
use mathlib.Core.Bool.{Bool, true, false, cond, true≢false}
use mathlib.Core.List.{List, [], ◌∷◌, foldl}
use lib.ListN.{length}
use lib.Dec.{ltb}
use native.Mathlib.Omega.{arith}
use borrow.Author.Tests.{ltb-false, ne_eqb}
use Rattle.gaps.specs.Gaps as gaps
use Rattle.gaps.specs.Stats.{mean_burst, cleared, stats_of}
use Rattle.gaps.specs.declared.Arrival.TheVariants.{Gap, Behind, InSequence}
use Rattle.gaps.specs.declared.GapTracker.{GapTracker}
use Rattle.gaps.specs.declared.IntervalStats.{IntervalStats}
use Rattle.gaps.proofs.RuleKept.{kept}
use Rattle.gaps.proofs.DueFollows.{due_follows}
use Rattle.sentences.specs.Bursts.{gaps_after, closed, lengths, bursts, greatest, total, mean}

-- a counter of 64 bits
abbrev pub Counters : List ℕ → Type 0
Counters [] = Unit {0}
Counters (counter ∷ rest) = (counter < 2 ^ 64) × Counters rest

-- the tracker after these frames
abbrev pub after : GapTracker → List ℕ → GapTracker
after = foldl (λ (t : GapTracker) (counter : ℕ). (gaps.observed t counter).tracker)

-- the counter expected after the highest
abbrev due : ℕ → ℕ
due highest = min (highest + 1) (2 ^ 64 - 1)

-- the bursts counted, with the one under way
abbrev begun : Bool → ℕ → ℕ
begun false finished = finished
begun true finished = finished + 1

-- a tracker that expects this counter: a burst is under way or not, with so many frames; so many are finished, with this greatest and this total
abbrev tracker : ℕ → Bool → ℕ → ℕ → ℕ → ℕ → GapTracker
tracker expected underway missing finished most sum =
    record {
      expected_next = Some expected;
      in_burst = underway;
      current_burst_len = min missing 65535;
      burst_count = begun underway finished;
      max_burst_len = most;
      total_burst_len = sum;
    }

-- what is reported of the bursts finished before and of these
record Told (told : IntervalStats) (finished most sum : ℕ) (ls : List ℕ) : Type 0 where
  count : told.count ≡ finished + length ls
  longest : told.max ≡ max most (greatest ls)
  mean : told.mean ≡ mean (sum + total ls) (finished + length ls)

same_mean : (sum n : ℕ) → mean_burst sum n ≡ mean sum n
unfolding mean_burst mean
same_mean sum zero = refl
same_mean sum (suc n) = rw (ne_eqb (suc n) 0 (λ e. absurd (omega arith))) (let e : min (256 * sum / suc n) 65535 ≡ min 65535 (256 * sum / suc n) = omega arith in e)

-- a burst under way will be reported
one_more : (missing : ℕ) (gs : List ℕ) → 1 ≤ length (lengths true missing gs)
unfolding lengths
one_more missing [] = omega arith
one_more missing (zero ∷ gs) = omega arith
one_more missing (suc g ∷ gs) = one_more (missing + suc g) gs

-- one burst more in front
behind : (told : IntervalStats) (finished most sum n : ℕ) (ls : List ℕ) → Told told (finished + 1) (max most n) (sum + n) ls → Told told finished most sum (n ∷ ls)
unfolding greatest total
behind told finished most sum n ls t =
    let e : finished + 1 + length ls ≡ finished + suc (length ls) = omega arith in
    record {
      count = t.count ∙ e;
      longest = t.longest ∙ omega arith;
      mean = t.mean ∙ ap₂ mean (omega arith) e;
    }

-- a report closes the burst under way
ended : (expected : ℕ) (underway : Bool) (missing finished most sum : ℕ) → sum + 65535 < 2 ^ 64 →
    Told (stats_of (tracker expected underway missing finished most sum)) finished most sum (closed underway missing)
unfolding stats_of gaps.burst_finished greatest total
ended expected true missing finished most sum small =
    let e : min (sum + min missing 65535) (2 ^ 64 - 1) ≡ sum + (min missing 65535 + 0) = omega arith in
    record { count = refl; longest = omega arith; mean = same_mean _ _ ∙ ap (λ (n : ℕ). mean n (finished + 1)) e }
ended expected false missing finished most sum small =
    record { count = omega arith; longest = omega arith; mean = same_mean _ _ ∙ ap₂ mean (omega arith) (omega arith) }

-- from any tracker on, what is reported is what the gaps between these counters say
abbrev Tells : List ℕ → Type 0
Tells counters =
    (highest : ℕ) (underway : Bool) (missing finished most sum : ℕ) →
    (underway ≡ false → missing ≡ 0) →
    sum ≤ 65535 * finished →
    finished + length (lengths underway missing (gaps_after highest counters)) < 2 ^ 32 →
    Told (stats_of (after (tracker (due highest) underway missing finished most sum) counters)) finished most sum (lengths underway missing (gaps_after highest counters))

one_frame : (counter : ℕ) (counters : List ℕ) → counter < 2 ^ 64 → Tells counters → Tells (counter ∷ counters)
unfolding gaps_after lengths gaps.observed gaps.gap_observed gaps.gap_counted gaps.burst_finished
one_frame counter counters wide rest highest underway missing finished most sum none small room =
    rw same_gap (go underway none (counter - due highest) (rw same_gap at room))
  where
    gs : List ℕ
    gs = gaps_after (max highest counter) counters

    same_gap : counter - (highest + 1) ≡ counter - due highest
    same_gap = omega arith

    next : gaps.next_after (due highest) counter ≡ due (max highest counter)
    next = due_follows highest counter

    go : (b : Bool) → (b ≡ false → missing ≡ 0) → (gap : ℕ) → finished + length (lengths b missing (gap ∷ gs)) < 2 ^ 32 →
        Told (stats_of (after (gaps.expecting (gaps.gap_observed (tracker (due highest) b missing finished most sum) gap) (gaps.next_after (due highest) counter)) counters)) finished most sum
        (lengths b missing (gap ∷ gs))
    go true n zero r =
        let len = min missing 65535 in
        let more : min (sum + len) (2 ^ 64 - 1) ≡ sum + len = omega arith in
        rw (next, more)
        (behind _ finished most sum len (lengths false 0 gs) (rest (max highest counter) false 0 (finished + 1) (max most len) (sum + len) (λ e. refl) (omega arith) (omega arith)))
    go false n zero r = rw (next, n refl) (rest (max highest counter) false 0 finished most sum (λ e. refl) small r)
    go true n (suc gap) r =
        let len : (gaps.gap_counted (tracker (due highest) true missing finished most sum) (suc gap)).current_burst_len ≡ min (missing + suc gap) 65535 = omega arith in
        rw (ne_eqb (suc gap) 0 (λ e. absurd (omega arith)), next, len)
        (rest (max highest counter) true (missing + suc gap) finished most sum (λ e. absurd (true≢false e)) small r)
    go false n (suc gap) r =
        let m = n refl in
        let o = one_more (missing + suc gap) gs in
        let len : (gaps.gap_counted (tracker (due highest) false missing finished most sum) (suc gap)).current_burst_len ≡ min (missing + suc gap) 65535 = omega arith in
        let one : min (finished + 1) (2 ^ 32 - 1) ≡ finished + 1 = omega arith in
        rw (ne_eqb (suc gap) 0 (λ e. absurd (omega arith)), next, one, len)
        (rest (max highest counter) true (missing + suc gap) finished most sum (λ e. absurd (true≢false e)) small r)

told : (counters : List ℕ) → Counters counters → Tells counters
unfolding gaps_after lengths
told [] wide = λ highest underway missing finished most sum none small room. ended (due highest) underway missing finished most sum (omega arith)
told (counter ∷ counters) wide = one_frame counter counters wide.0 (told counters wide.1)

-- the tracker where an interval begins, after frames up to the highest counter
abbrev beginning : ℕ → GapTracker
beginning highest = tracker (due highest) false 0 0 0 0

-- the first frame of a new tracker begins one, whatever its counter
pub first_frame : (counter : ℕ) → (gaps.observed gaps.fresh counter).tracker ≡ beginning counter
unfolding gaps.observed
first_frame counter = refl

-- and so does a report
pub report_made : (t : GapTracker) (highest : ℕ) → gaps.keeps_the_rule t ≡ true → t.expected_next ≡ Some (due highest) → (stats_of t).tracker ≡ beginning highest
unfolding stats_of gaps.burst_finished
report_made t highest h e = go t.in_burst refl
  where
    go : (b : Bool) → t.in_burst ≡ b → cleared (cond b (gaps.burst_recorded t) t) ≡ beginning highest
    go true i = λ j. record { expected_next = e j; in_burst = false; current_burst_len = 0; burst_count = 0; max_burst_len = 0; total_burst_len = 0 }
    go false i = λ j. record { expected_next = e j; in_burst = i j; current_burst_len = (kept t h).outside i j; burst_count = 0; max_burst_len = 0; total_burst_len = 0 }

-- THE BURSTS OF AN INTERVAL, by the counters of its frames. As many as 32 bits hold: a frame that begins one more meets 10
pub bursts_told : (highest : ℕ) (counters : List ℕ) → Counters counters → length (bursts highest counters) < 2 ^ 32 →
    ((stats_of (after (beginning highest) counters)).count ≡ length (bursts highest counters))
    × ((stats_of (after (beginning highest) counters)).max ≡ greatest (bursts highest counters))
    × ((stats_of (after (beginning highest) counters)).mean ≡ mean (total (bursts highest counters)) (length (bursts highest counters)))
bursts_told highest counters wide room =
    let t = told counters wide highest false 0 0 0 0 (λ e. refl) (omega arith) (omega arith) in
    (t.count ∙ omega arith, t.longest ∙ omega arith, t.mean ∙ ap₂ mean (omega arith) (omega arith))

-- the commit's number of an arrival is the gap
lost_is_gap : (expected counter : ℕ) → gaps.lost_before (gaps.arrival_after expected counter) ≡ counter - expected
unfolding gaps.arrival_after
lost_is_gap expected counter = go (ltb expected counter) (ltb counter expected) (ltb-false expected counter)
  where
    go : (above below : Bool) → (above ≡ false → counter ≤ expected) → gaps.lost_before (cond above (Gap (counter - expected)) (cond below (Behind (expected - counter)) InSequence)) ≡ counter - expected
    go true below f = refl
    go false true f = let h = f refl in omega arith
    go false false f = let h = f refl in omega arith

-- the frames that a call says were lost are the whole gap
pub gap_told : (t : GapTracker) (highest counter : ℕ) → counter < 2 ^ 64 → t.expected_next ≡ Some (due highest) → gaps.lost_before (gaps.observed t counter).arrival ≡ counter - (highest + 1)
unfolding gaps.observed
gap_told t highest counter wide e =
    let same : counter - due highest ≡ counter - (highest + 1) = omega arith in
    ap (λ (o : Option ℕ). gaps.lost_before (gaps.arrival_at o counter)) e ∙ lost_is_gap (due highest) counter ∙ same
