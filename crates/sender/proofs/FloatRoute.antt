-- The effective interval by whole numbers is that of the Rust's float route, `(report_interval_ms as f64 * multiplier) as u64`: every float on the way is exact.
use Rattle.std.proofs.Common.{◌≡◌, ℕ, ◌^◌, ◌≤◌, min, true, pos, mul-le-mul, arith, pow_mono}
use lib.Ieee.{binary64, mul, of_int, to_unsigned}
use Rattle.floats.proofs.PowersOfTwo.{power_exact, product_cast}
use Rattle.sender.specs.State.{keeps_the_rule}
use Rattle.sender.specs.Backoff.{max_doublings, backoff, multiplier}
use Rattle.sender.specs.Pacing.{effective_ms}
use Rattle.sender.specs.declared.SenderState.{SenderState}
use Rattle.sender.proofs.QuestionsAnswered.{interval_at_most}

pub multiplier_exact : (failures : ℕ) → of_int binary64 (pos (backoff failures)) ≡ multiplier failures
unfolding backoff multiplier
multiplier_exact failures = power_exact binary64 (min failures max_doublings) (omega arith)

pub backoff_at_most : (failures : ℕ) → 2 ^ min failures max_doublings ≤ 2 ^ max_doublings
backoff_at_most failures = let l : min failures max_doublings ≤ max_doublings = omega arith in pow_mono l

pub float_route_lem : (s : SenderState) → keeps_the_rule s ≡ true
    → to_unsigned 64 (mul binary64 (of_int binary64 (pos s.report_interval_ms)) (multiplier s.consecutive_send_failures)) ≡ effective_ms s
unfolding backoff multiplier
float_route_lem s h =
    let n = s.report_interval_ms in
    let k = min s.consecutive_send_failures max_doublings in
    let l = interval_at_most s h in
    let p = mul-le-mul l (backoff_at_most s.consecutive_send_failures) in
    product_cast binary64 64 n k (omega arith) (omega arith) (omega arith)
