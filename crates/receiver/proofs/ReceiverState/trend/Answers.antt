-- A question before the trend's last one refuses the report.
use Rattle.std.proofs.Common.{◌≡◌, sym, ◌∙◌, rules}
use Rattle.refusals.specs.Answers.{passed}
use Rattle.refusals.specs.Questions.{first_no, asked}
use Rattle.algorithms.specs.Owd.{window}
use Rattle.algorithms.specs.OwdTrend.{trend_of}
use Rattle.receiver.proofs.TrendAsked.{before_trend, first_refuses}
use Rattle.receiver.proofs.ReceiverState.trend.Goals as goal

pub returns-in_err-first_no : goal.returns-in_err-first_no
unfolding first_no asked
returns-in_err-first_no c =
    let a = c.args in
    let first : c.first_no.result ≡ passed (before_trend a.self a.times.now a.delays.now a.now_ms) = rw (c.first_no.ensures, c.all_yes-q.ensures, c.keeps_rule.ensures, c.clock_ok.ensures, c.windows_ok.ensures) in
    let k = first_refuses a.self a.times.now a.delays.now a.now_ms (trend_of (window a.self.owd_trend a.times.now a.delays.now)) c.in_err-first_no.field-0.0 (sym first ∙ c.in_err-first_no.was) in
    search (rules, k)
