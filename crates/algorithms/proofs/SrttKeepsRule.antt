-- The smoothed round trip and its variation stay within their rule.
use Rattle.std.proofs.Common.{◌≡◌, ℕ, ◌/◌, ◌^◌, ◌≤◌, Bool, true, false, cond, [], ◌∷◌, ℤ, pos, refl, arith, le-leb}
use lib.Dec.{leb-zero}
use lib.Signed.{le_z}
use Rattle.numbers.specs.RoundTrip.{no_estimate, estimate, srtt_step, rttvar_step, estimate_step}
use Rattle.numbers.specs.Signs.{as_unsigned}
use Rattle.numbers.proofs.SignTold.{unsigned_at_most}
use Rattle.refusals.specs.Questions.{question}
use Rattle.refusals.specs.Ranges.{max_delay, round_trip_ok}
use Rattle.refusals.proofs.Clauses.{both, right, joined}
use Rattle.refusals.proofs.FirstNoFound.{each_yes}
use Rattle.algorithms.specs.Srtt.{keeps_the_rule, estimate_in, holding, fresh, stepped, update_refusal, update_of}
use Rattle.algorithms.specs.declared.srtt.SrttEstimator.{SrttEstimator}

-- ---- what the rule and the questions tell
trip_at_most : (z : ℤ) → round_trip_ok z ≡ true → as_unsigned z ≤ 2 ^ 42
trip_at_most z h = unsigned_at_most z (2 ^ 42) (right (le_z (pos 0) z) (le_z z max_delay) h)

trip_ok : (n : ℕ) → n ≤ 2 ^ 42 → round_trip_ok (pos n) ≡ true
trip_ok n h = rw leb-zero (le-leb n (2 ^ 42) h)

-- the rule's clauses by name
pub record Kept (s : SrttEstimator) : Type 0 where
  pub smoothed : round_trip_ok s.srtt_us ≡ true
  pub variation : round_trip_ok s.rttvar_us ≡ true

pub kept : (s : SrttEstimator) → keeps_the_rule s ≡ true → Kept s
unfolding keeps_the_rule
kept s h = let p = both (round_trip_ok s.srtt_us) (round_trip_ok s.rttvar_us) h in record { smoothed = p.0; variation = p.1 }

-- nothing refused: the rule is kept, and the round trip is in range
pub update_asked : (s : SrttEstimator) (r : ℤ) → update_refusal s r ≡ 0 → (keeps_the_rule s ≡ true) × (round_trip_ok r ≡ true)
unfolding update_refusal
update_asked s r h = let y = each_yes (question 1 (keeps_the_rule s) ∷ question 8 (round_trip_ok r) ∷ []) refl h in (y.0, y.1.0)

-- ---- the rule
srtt_within : (s r : ℕ) → s ≤ 2 ^ 42 → r ≤ 2 ^ 42 → srtt_step s r ≤ 2 ^ 42
srtt_within s r hs hr = omega arith

rttvar_within : (v s r : ℕ) → v ≤ 2 ^ 42 → s ≤ 2 ^ 42 → r ≤ 2 ^ 42 → rttvar_step v s r ≤ 2 ^ 42
rttvar_within v s r hv hs hr = omega arith

holding_keeps_rule : (begun : Bool) (s v r : ℕ) → s ≤ 2 ^ 42 → v ≤ 2 ^ 42 → r ≤ 2 ^ 42 → keeps_the_rule (holding (estimate_step (cond begun (estimate s v) no_estimate) r)) ≡ true
unfolding keeps_the_rule estimate_step
holding_keeps_rule true s v r hs hv hr = joined (trip_ok _ (srtt_within s r hs hr)) (trip_ok _ (rttvar_within v s r hv hs hr))
holding_keeps_rule false s v r hs hv hr = joined (trip_ok r hr) (trip_ok (r / 2) (omega arith))

pub fresh_keeps_rule : keeps_the_rule fresh ≡ true
unfolding keeps_the_rule
fresh_keeps_rule = refl

pub step_keeps_rule : (s : SrttEstimator) (r : ℤ) → keeps_the_rule s ≡ true → round_trip_ok r ≡ true → keeps_the_rule (stepped s r) ≡ true
unfolding stepped estimate_in
step_keeps_rule s r h k =
    let p = kept s h in
    holding_keeps_rule s.initialized (as_unsigned s.srtt_us) (as_unsigned s.rttvar_us) (as_unsigned r)
    (trip_at_most s.srtt_us p.smoothed)
    (trip_at_most s.rttvar_us p.variation)
    (trip_at_most r k)

-- an accepted update ends within the rule
pub update_keeps_rule : (s : SrttEstimator) (r : ℤ) → (update_of s r).refusal ≡ 0 → keeps_the_rule (update_of s r).state ≡ true
unfolding update_of
update_keeps_rule s r h = let y = update_asked s r h in rw h (step_keeps_rule s r y.0 y.1)
