-- Scaled jitter stays within its rule: 2^35 is where a step of |D| = 2^31 gives back what it takes.
use Rattle.std.proofs.Common.{◌≡◌, ℕ, ◌^◌, ◌≤◌, true, [], ◌∷◌, ℤ, pos, nat_abs, refl, arith, w32, SFits, le-leb}
use Rattle.std.specs.Prelude.{Ok}
use lib.Dec.{leb-zero}
use lib.Signed.{le_z}
use Rattle.numbers.specs.Jitter.{jitter_step}
use Rattle.numbers.specs.Signs.{as_unsigned}
use Rattle.numbers.proofs.SignTold.{unsigned_at_most, magnitude_at_most}
use Rattle.refusals.specs.Answers.{passed}
use Rattle.refusals.specs.Questions.{question}
use Rattle.refusals.proofs.Clauses.{right}
use Rattle.refusals.proofs.FirstNoFound.{each_yes}
use Rattle.algorithms.specs.Jitter.{keeps_the_rule, refusal_of, fresh, stepped, update_of}
use Rattle.algorithms.specs.declared.jitter.JitterEstimator.{JitterEstimator}
use Rattle.refusals.proofs.ResultsSayAll.{passed_zero}

-- nothing refused: the rule is kept
pub rule_asked : (s : JitterEstimator) → refusal_of s ≡ 0 → keeps_the_rule s ≡ true
unfolding refusal_of
rule_asked s h = (each_yes (question 1 (keeps_the_rule s) ∷ []) refl h).0

pub rule_passed : (s : JitterEstimator) (u : Unit {0}) → passed (refusal_of s) ≡ Ok u → keeps_the_rule s ≡ true
rule_passed s u h = rule_asked s (passed_zero (refusal_of s) u h)

pub scaled_at_most : (s : JitterEstimator) → keeps_the_rule s ≡ true → as_unsigned s.jitter_q4 ≤ 2 ^ 35
scaled_at_most s h = unsigned_at_most s.jitter_q4 (2 ^ 35) (right (le_z (pos 0) s.jitter_q4) (le_z s.jitter_q4 (pos (2 ^ 35))) h)

within : (j d : ℕ) → j ≤ 2 ^ 35 → d ≤ 2 ^ 31 → jitter_step j d ≤ 2 ^ 35
within j d hj hd = omega arith

pub fresh_keeps_rule : keeps_the_rule fresh ≡ true
fresh_keeps_rule = refl

-- a step by any i32
pub step_keeps_rule : (s : JitterEstimator) (d : ℤ) → SFits w32 d → keeps_the_rule s ≡ true → keeps_the_rule (stepped s d) ≡ true
unfolding stepped
step_keeps_rule s d f h = rw leb-zero (le-leb _ _ (within (as_unsigned s.jitter_q4) (nat_abs d) (scaled_at_most s h) (magnitude_at_most d f)))

-- an accepted update ends within the rule
pub update_keeps_rule : (s : JitterEstimator) (d : ℤ) → SFits w32 d → (update_of s d).refusal ≡ 0 → keeps_the_rule (update_of s d).state ≡ true
unfolding update_of
update_keeps_rule s d f h = rw h (step_keeps_rule s d f (rule_asked s h))
