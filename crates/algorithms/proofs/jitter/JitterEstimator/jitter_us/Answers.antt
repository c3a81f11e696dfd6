-- A sixteenth of a scaled jitter that keeps its rule is at most 2 ^ 31.
use Rattle.std.proofs.Common.{◌≡◌, sym, ap, ◌∙◌, arith, rules, w64, SFits}
use mir.ValLaws.{to_z-of_z}
use Rattle.numbers.specs.Signs.{as_unsigned}
use Rattle.algorithms.proofs.JitterKeepsRule.{rule_passed, scaled_at_most}
use Rattle.algorithms.proofs.jitter.JitterEstimator.jitter_us.Goals as goal

pub overflow_cast-result : goal.overflow_cast-result
overflow_cast-result c =
    let j = c.args.self.jitter_q4 in
    let fits : SFits w64 j = search rules in
    let most = scaled_at_most c.args.self (rule_passed c.args.self c.in_ok-ask.field-0 (sym c.ask.ensures ∙ c.in_ok-ask.was)) in
    let scaled : c.unsigned.result ≡ as_unsigned j = c.unsigned.ensures ∙ ap as_unsigned (to_z-of_z w64 j fits) in
    record { fits = omega (arith, c.sixteenth.ensures) }
