-- The gate's number is the definition's, and where it lets the call through the state and both buffers are in order.
use Rattle.std.proofs.Common.{◌≡◌, sym, ◌∙◌, rules}
use Rattle.refusals.specs.Answers.{passed}
use Rattle.refusals.specs.Questions.{first_no, asked}
use Rattle.algorithms.proofs.OwdTrendGates.{gate, trend_in_order, trend_accepted, trend_refused}
use Rattle.algorithms.proofs.owd.OwdTrendDetector.trend_us_per_sec.Goals as goal

pub returns-in_err-first_no : goal.returns-in_err-first_no
unfolding first_no asked
returns-in_err-first_no c =
    let a = c.args in
    let at : c.first_no.result ≡ passed (gate a.self a.times.now a.delays.now) = rw (c.first_no.ensures, c.all_yes-q.ensures, c.keeps_rule.ensures, c.windows_ok.ensures) in
    let k = trend_refused a.self a.times.now a.delays.now c.in_err-first_no.field-0.0 (sym at ∙ c.in_err-first_no.was) in search (rules, k)

pub live_trend-requires : goal.live_trend-requires
unfolding first_no asked
live_trend-requires c =
    let a = c.args in
    let at : c.first_no.result ≡ passed (gate a.self a.times.now a.delays.now) = rw (c.first_no.ensures, c.all_yes-q.ensures, c.keeps_rule.ensures, c.windows_ok.ensures) in
    trend_in_order a.self a.times.now a.delays.now c.in_ok-first_no.field-0 (sym at ∙ c.in_ok-first_no.was)

pub returns : goal.returns
unfolding first_no asked
returns c =
    let a = c.args in
    let at : c.first_no.result ≡ passed (gate a.self a.times.now a.delays.now) = rw (c.first_no.ensures, c.all_yes-q.ensures, c.keeps_rule.ensures, c.windows_ok.ensures) in
    c.live_trend.ensures ∙ trend_accepted a.self a.times.now a.delays.now c.in_ok-first_no.field-0 (sym at ∙ c.in_ok-first_no.was)
