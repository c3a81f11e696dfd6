-- The counters have room: an interval's start moves neither, and the questions asked for it.
use Rattle.std.proofs.Common.{◌≡◌, ℕ, Bool, true, false, cond, refl, ap, ◌∙◌, arith}
use Rattle.refusals.proofs.ResultsSayAll.{past}
use Rattle.sender.specs.Sent.{begun, opened, sent_refusal}
use Rattle.sender.specs.declared.SenderState.{SenderState}
use Rattle.sender.proofs.QuestionsAnswered.{sent_asked}
use Rattle.sender.proofs.SenderState.record_sent.Goals as goal

-- a field that an interval's start does not move
unmoved : (field : SenderState → ℕ) (s : SenderState) (counter timestamp : ℕ) → field (begun s counter timestamp) ≡ field s → field (opened s counter timestamp) ≡ field s
unfolding opened
unmoved field s counter timestamp e = go s.interval_has_data
  where
    go : (b : Bool) → field (cond b s (begun s counter timestamp)) ≡ field s
    go true = refl
    go false = e

pub overflow_add-result : goal.overflow_add-result
overflow_add-result c =
    let a = c.args in
    let h = sent_asked a.self a.bytes (past (sent_refusal a.self a.bytes) a.self c.in_ok-admit_sent.field-0 c.in_ok-admit_sent.ensures) in
    let e = ap (λ x. x.cumulative_packets_sent) c.open-opened.ensures ∙ unmoved (λ x. x.cumulative_packets_sent) a.self a.counter a.timestamp refl in
    record { fits = omega (arith, e, h.packets_fit) }

pub overflow_add-result-2 : goal.overflow_add-result-2
overflow_add-result-2 c =
    let a = c.args in
    let h = sent_asked a.self a.bytes (past (sent_refusal a.self a.bytes) a.self c.in_ok-admit_sent.field-0 c.in_ok-admit_sent.ensures) in
    let e = ap (λ x. x.cumulative_bytes_sent) c.open-opened.ensures ∙ unmoved (λ x. x.cumulative_bytes_sent) a.self a.counter a.timestamp refl in
    record { fits = omega (arith, e, h.bytes_fit) }
