-- THE RULE that question 1 asks of each record is that of document 01, "State rule", clause by clause.
use mathlib.Core.Path.{◌≡◌, refl, ◌∙◌}
use native.Mathlib.Omega.{arith}
use mathlib.Core.Bool.{true}
use Rattle.algorithms.specs.Ewma as ewma
use Rattle.algorithms.specs.Owd as owd
use Rattle.algorithms.specs.Spin as spin
use Rattle.algorithms.specs.Srtt as srtt
use Rattle.algorithms.specs.declared.spin.SpinBitState.{SpinBitState}
use Rattle.gaps.specs.Gaps as gaps
use Rattle.sender.specs.State as sender
use Rattle.receiver.specs.State as receiver
use Rattle.metrics.specs.State as metrics
use Rattle.sender.specs.declared.SenderState.{SenderState}
use Rattle.receiver.specs.declared.ReceiverState.{ReceiverState}
use Rattle.metrics.specs.declared.MmpMetrics.{MmpMetrics}
use Rattle.metrics.proofs.QuestionsAnswered.{sum_seen}
use Rattle.sentences.specs.StateRule.{spin_rule, sender_rule, receiver_rule, metrics_rule, NoneAbove}

pub sender_rule_lem : (s : SenderState) → sender.keeps_the_rule s ≡ sender_rule s
unfolding sender.keeps_the_rule sender_rule
sender_rule_lem s = refl

pub spin_rule_lem : (s : SpinBitState) → spin.keeps_the_rule s ≡ spin_rule s
unfolding spin.keeps_the_rule spin_rule
spin_rule_lem s = refl

pub receiver_rule_lem : (s : ReceiverState) → receiver.keeps_the_rule s ≡ receiver_rule s
unfolding receiver.keeps_the_rule receiver_rule owd.keeps_the_rule gaps.keeps_the_rule gaps.finished_bursts
receiver_rule_lem s = refl

pub metrics_rule_lem : (m : MmpMetrics) → metrics.keeps_the_rule m ≡ metrics_rule m
unfolding metrics.keeps_the_rule metrics.trends_ok metrics.ratios_ok metrics_rule ewma.keeps_the_rule srtt.keeps_the_rule
metrics_rule_lem m = refl

pub none_above : (m : MmpMetrics) → metrics_rule m ≡ true → NoneAbove m
none_above m h =
    let e = sum_seen m (metrics_rule_lem m ∙ h) in
    record { stale = omega (arith, e); no_echo = omega (arith, e); samples = omega (arith, e); zeros = omega (arith, e); failures = omega (arith, e) }
