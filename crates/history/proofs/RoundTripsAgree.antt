-- The stale test and the round trip that history's exact side reads off a report are those of `figures`.
use mathlib.Core.Path.{◌≡◌, refl, ap₂}
use mathlib.Core.Bool.{Bool, true, false, cond, ◌&&◌, ◌||◌}
use mathlib.Core.List.{List, [], ◌∷◌, foldl}
use Prim.Native.Nat.{ℕ, ◌+◌, ◌-◌, ◌<◌, ◌≤◌}
use native.Mathlib.Nat.{pos_of_ne-zero}
use native.Mathlib.Omega.{arith}
use lib.Dec.{ltb, eqb}
use borrow.Author.Tests.{ltb-true, ltb-false, eqb-true, eqb-false, lt-ltb, le-ltb}
use Rattle.numbers.specs.RoundTrip.{multiples, Estimate, estimate_step}
use Rattle.wire.specs.declared.receiver_report.ReceiverReport.{ReceiverReport}
use Rattle.figures.specs.Stale as figures
use Rattle.figures.specs.RoundTrips.{send_done, round_trip}
use Rattle.figures.specs.declared.RoundTrip.{RoundTrip}
use Rattle.figures.specs.declared.RoundTrip.TheVariants.{NoEcho, Sample, Zero, ArithFail}
use Rattle.metrics.proofs.RoundTripsTaken.{after_trip}
use Rattle.history.specs.ExactRoundTrip as exact

-- the report kept, as a record keeps it
abbrev pub saved_as : exact.Kept → figures.Saved
saved_as exact.no_report = figures.none
saved_as (exact.report rr) = figures.saved (figures.counters_of rr)

one_of_five : (a b c d e : Bool) → (a || b || c || d || e) ≡ (a || (b || (c || (d || (e || false)))))
one_of_five true b c d e = refl
one_of_five false true c d e = refl
one_of_five false false true d e = refl
one_of_five false false false true e = refl
one_of_five false false false false true = refl
one_of_five false false false false false = refl

all_of_five : (a b c d e : Bool) → (a && b && c && d && e) ≡ (a && (b && (c && (d && (e && true)))))
all_of_five false b c d e = refl
all_of_five true false c d e = refl
all_of_five true true false d e = refl
all_of_five true true true false e = refl
all_of_five true true true true true = refl
all_of_five true true true true false = refl

pub stale_agrees : (k : exact.Kept) (rr : ReceiverReport) → figures.stale (saved_as k) rr ≡ exact.stale k rr
unfolding figures.stale figures.fell figures.same exact.stale exact.one_fell exact.all_equal
stale_agrees exact.no_report rr = refl
stale_agrees (exact.report k) rr = ap₂ (λ (a b : Bool). a || b) (five ltb one_of_five) (five eqb all_of_five)
  where
    -- of the five tests, one by one
    five : {P : Bool → Bool → Bool → Bool → Bool → Type 0} (test : ℕ → ℕ → Bool) → ((a b c d e : Bool) → P a b c d e) →
        P (test rr.highest_counter k.highest_counter) (test rr.cumulative_packets_recv k.cumulative_packets_recv) (test rr.cumulative_bytes_recv k.cumulative_bytes_recv) (test rr.ecn_ce_count k.ecn_ce_count) (test rr.cumulative_reorder_count k.cumulative_reorder_count)
    five test law = law _ _ _ _ _

-- ---- a round trip by its cases
module _ (P : RoundTrip → Type 0) (rr : ReceiverReport) (ours : ℕ) where
  abbrev echo : ℕ
  echo = rr.timestamp_echo

  pub by_trip :
      (echo ≡ 0 → P NoEcho) →
      (0 < echo → ours < send_done rr → P ArithFail) →
      (0 < echo → ours ≡ send_done rr → P Zero) →
      (0 < echo → send_done rr < ours → P (Sample (ours - send_done rr))) →
      P (round_trip rr ours)
  unfolding round_trip
  by_trip none early same past =
      go (eqb echo 0) (ltb ours (send_done rr)) (eqb ours (send_done rr))
      (eqb-true echo 0) (eqb-false echo 0) (ltb-true ours (send_done rr)) (ltb-false ours (send_done rr)) (eqb-true ours (send_done rr)) (eqb-false ours (send_done rr))
    where
      go :
          (a b c : Bool) →
          (a ≡ true → echo ≡ 0) →
          (a ≡ false → echo ≡ 0 → ⊥) →
          (b ≡ true → ours < send_done rr) →
          (b ≡ false → send_done rr ≤ ours) →
          (c ≡ true → ours ≡ send_done rr) →
          (c ≡ false → ours ≡ send_done rr → ⊥) →
          P (cond a NoEcho (cond b ArithFail (cond c Zero (Sample (ours - send_done rr)))))
      go true b c no_echo some before after equal other = none (no_echo refl)
      go false true c no_echo some before after equal other = early (pos_of_ne-zero (some refl)) (before refl)
      go false false true no_echo some before after equal other = same (pos_of_ne-zero (some refl)) (equal refl)
      go false false false no_echo some before after equal other =
          past (pos_of_ne-zero (some refl)) (let a = after refl in let b = other refl in omega arith)

-- the round trip that a report gives, if it is a sample
abbrev pub trip_in : RoundTrip → List ℕ
trip_in NoEcho = []
trip_in (Sample ms) = ms ∷ []
trip_in Zero = []
trip_in ArithFail = []

pub trip_agrees : (rr : ReceiverReport) (ours : ℕ) → exact.trip_ms rr ours ≡ trip_in (round_trip rr ours)
unfolding exact.trip_ms
trip_agrees rr ours =
    by_trip (λ t. exact.trip_ms rr ours ≡ trip_in t) rr ours
    (λ e. rw (le-ltb 0 rr.timestamp_echo (omega arith)))
    (λ p e. rw (lt-ltb 0 rr.timestamp_echo p, le-ltb (rr.timestamp_echo + rr.dwell_time) ours (omega arith)))
    (λ p e. rw (lt-ltb 0 rr.timestamp_echo p, le-ltb (rr.timestamp_echo + rr.dwell_time) ours (omega arith)))
    (λ p e. rw (lt-ltb 0 rr.timestamp_echo p, lt-ltb (rr.timestamp_echo + rr.dwell_time) ours e))

-- a sample's milliseconds are one round trip of 1000 times as many µs; any other echo gives none
step_agrees : (e : Estimate) (t : RoundTrip) → after_trip e t ≡ foldl estimate_step e (multiples 1000 (trip_in t))
step_agrees e NoEcho = refl
step_agrees e (Sample ms) = refl
step_agrees e Zero = refl
step_agrees e ArithFail = refl

pub estimate_agrees : (e : Estimate) (rr : ReceiverReport) (ours : ℕ) → after_trip e (round_trip rr ours) ≡ foldl estimate_step e (multiples 1000 (exact.trip_ms rr ours))
estimate_agrees e rr ours = rw (trip_agrees rr ours) (step_agrees e (round_trip rr ours))
