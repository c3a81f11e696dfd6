-- Past the questions there is room for the counts, and the report is stale or taken.
use Rattle.std.proofs.Common.{sym, ◌∙◌, Ok}
use Rattle.refusals.specs.Answers.{settled_with}
use Rattle.refusals.proofs.ResultsSayAll.{past}
use Rattle.metrics.specs.State.{saved_in}
use Rattle.metrics.specs.Reports.{counted, process_refusal}
use Rattle.metrics.proofs.QuestionsAnswered.{process_asked}
use Rattle.metrics.proofs.ReportsByCase.{stale_is, newer_is}
use Rattle.metrics.proofs.MmpMetrics.process_receiver_report.Goals as goal

pub overflow_add-state : goal.overflow_add-state
overflow_add-state c =
    let a = c.args in
    let h = process_asked a.self a.now_ms (past (process_refusal a.self a.now_ms) a.self c.in_ok-admit_report.field-0 c.in_ok-admit_report.ensures) in
    record { fits = h.seen }

pub stale_report-outcome-requires : goal.stale_report-outcome-requires
unfolding counted
stale_report-outcome-requires c =
    let a = c.args in
    (process_asked a.self a.now_ms (past (process_refusal a.self a.now_ms) a.self c.in_ok-admit_report.field-0 c.in_ok-admit_report.ensures)).room

pub newer_report-outcome-requires : goal.newer_report-outcome-requires
unfolding counted
newer_report-outcome-requires c =
    let a = c.args in
    (process_asked a.self a.now_ms (past (process_refusal a.self a.now_ms) a.self c.in_ok-admit_report.field-0 c.in_ok-admit_report.ensures)).room

pub returns-then-finds_stale : goal.returns-then-finds_stale
unfolding counted saved_in settled_with
returns-then-finds_stale c =
    let a = c.args in
    let asked = past (process_refusal a.self a.now_ms) a.self c.in_ok-admit_report.field-0 c.in_ok-admit_report.ensures in
    rw (stale_is a.self a.rr a.our_timestamp_ms a.now_ms asked (sym c.finds_stale.ensures ∙ c.if-finds_stale.true))
    (λ i. Ok (c.stale_report-outcome.ensures.state i, c.stale_report-outcome.ensures.answer i))

pub returns : goal.returns
unfolding counted saved_in settled_with
returns c =
    let a = c.args in
    let asked = past (process_refusal a.self a.now_ms) a.self c.in_ok-admit_report.field-0 c.in_ok-admit_report.ensures in
    rw (newer_is a.self a.rr a.our_timestamp_ms a.now_ms asked (sym c.finds_stale.ensures ∙ c.if-finds_stale.false))
    (λ i. Ok (c.newer_report-outcome.ensures.state i, c.newer_report-outcome.ensures.answer i))
