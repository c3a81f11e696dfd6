-- The age is the reference's, and the delay is measured from it.
use Rattle.std.proofs.Common.{◌≡◌, ◌-◌, ℕ, Option, arith, rules, w32, w64, SFits}
use mir.ValLaws.{to_z-of_z}
use Rattle.samples.specs.Delay.{base_of, age_of, delay_of, pushed}
use Rattle.samples.specs.declared.delay.OwdBase.{OwdBase}
use Rattle.samples.proofs.DelayInRange.{age_below}
use Rattle.samples.proofs.delay.sample_owd_unchecked.Goals as goal

-- the age is the reference's
aged : (r : Option OwdBase) (timestamp now age : ℕ) (b : OwdBase) → b ≡ base_of r now timestamp → age ≡ now - b.recv_ms → age ≡ age_of r timestamp now
unfolding age_of
aged r timestamp now age b e h = rw (h, e)

pub delay_us-us-requires : goal.delay_us-us-requires
delay_us-us-requires c =
    let a = c.args in
    let e = aged a.owd_ref a.timestamp a.now_ms c.saturating_sub-age.result c.base_of_unchecked-base.result c.base_of_unchecked-base.ensures c.saturating_sub-age.ensures in
    rw e (age_below a.owd_ref a.timestamp a.now_ms)

pub overflow_cast-age : goal.overflow_cast-age
overflow_cast-age c =
    let a = c.args in
    let e = aged a.owd_ref a.timestamp a.now_ms c.saturating_sub-age.result c.base_of_unchecked-base.result c.base_of_unchecked-base.ensures c.saturating_sub-age.ensures in
    record { fits = omega (arith, age_below a.owd_ref a.timestamp a.now_ms) }

pub returns-clause-answer : goal.returns-clause-answer
unfolding pushed
returns-clause-answer c = rw (c.push_unchecked.ensures.answer, c.window_for-live.ensures)

pub returns-clause-times : goal.returns-clause-times
returns-clause-times c =
    let a = c.args in
    let e = aged a.owd_ref a.timestamp a.now_ms c.saturating_sub-age.result c.base_of_unchecked-base.result c.base_of_unchecked-base.ensures c.saturating_sub-age.ensures in
    rw (c.push_unchecked.ensures.times, c.window_for-live.ensures, e)

pub returns-clause-delays : goal.returns-clause-delays
unfolding delay_of
returns-clause-delays c =
    let a = c.args in
    let e = aged a.owd_ref a.timestamp a.now_ms c.saturating_sub-age.result c.base_of_unchecked-base.result c.base_of_unchecked-base.ensures c.saturating_sub-age.ensures in
    let fits : SFits w64 c.delay_us-us.result = search rules in
    let sent : SFits w32 c.sent_ms.result = search rules in
    rw (c.push_unchecked.ensures.delays, c.window_for-live.ensures, to_z-of_z w64 c.delay_us-us.result fits, c.delay_us-us.ensures, to_z-of_z w32 c.sent_ms.result sent, c.sent_ms.ensures, e, c.base_of_unchecked-base.ensures)
