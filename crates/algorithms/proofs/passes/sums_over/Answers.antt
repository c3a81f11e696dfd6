-- The pairs that are left begin with this one.
use Rattle.std.proofs.Common.{◌≡◌, ◌+◌, Bool, true, false, ◌&&◌, [], ◌∷◌, ◌++◌, length, sym, refl, ap, ◌∙◌, rules, w64, SFits, length-append}
use Rattle.std.proofs.lemmas.Slice.Zip.{zip_turn, zip_end}
use mir.ValLaws.{to_z-of_z}
use lib.Ieee.{Float, binary64, add, of_int}
use Rattle.refusals.specs.Ranges.{delay_ok}
use Rattle.algorithms.specs.Owd.{samples_ok, pairs}
use Rattle.algorithms.specs.OwdTrend.{time, delay, plus}
use Rattle.algorithms.proofs.OwdStretches.{left_from, plus_next, samples_next, plus_over, samples_over, summed_refused, summed_accepted}
use Rattle.algorithms.proofs.passes.sums_over.Goals as goal

pub returns-then-not-delay_ok : goal.returns-then-not-delay_ok
returns-then-not-delay_ok c =
    let a = c.args in
    let l = c.loop-at_ms in
    let p = c.in-Some in
    let ts = a.times.now in
    let ds = a.delays.now in
    let us = p.owd_us.now in
    let n = length l.yielded in
    let turn = zip_turn ts ds l.yielded c.into_iter-at_ms-iterator.result l.at_ms-iterator c.next.new.self c.next.result (search rules) (search rules) l.yielded_by (p.at_ms, p.owd_us) p.is c.next.ensures.steps in
    let fits : SFits w64 us = search rules in
    let here : delay_ok us ≡ false = sym (c.delay_ok.ensures ∙ ap delay_ok (to_z-of_z w64 us fits)) ∙ c.if-not-delay_ok.true in
    summed_refused a.start.x a.start.y (pairs ts ds)
    (sym l.invariant.2 ∙ samples_next n (n + 1) ts ds p.at_ms.now us refl turn ∙ ap (λ (b : Bool). b && samples_ok (left_from (n + 1) ts ds)) here)

pub loop-at_ms-preserved : goal.loop-at_ms-preserved
loop-at_ms-preserved c =
    let a = c.args in
    let l = c.loop-at_ms in
    let p = c.in-Some in
    let ts = a.times.now in
    let ds = a.delays.now in
    let us = p.owd_us.now in
    let n = length l.yielded in
    let m = length (l.yielded ++ (p.at_ms, p.owd_us) ∷ []) in
    let on : m ≡ n + 1 = length-append l.yielded ((p.at_ms, p.owd_us) ∷ []) in
    let turn = zip_turn ts ds l.yielded c.into_iter-at_ms-iterator.result l.at_ms-iterator c.next.new.self c.next.result (search rules) (search rules) l.yielded_by (p.at_ms, p.owd_us) p.is c.next.ensures.steps in
    let fits : SFits w64 us = search rules in
    let here : delay_ok us ≡ true = sym (c.delay_ok.ensures ∙ ap delay_ok (to_z-of_z w64 us fits)) ∙ c.if-not-delay_ok.false in
    let next = left_from m ts ds in (
      ap (λ (z : Float). plus time (add binary64 l.x z) next) c.from-x.ensures ∙ plus_next n m ts ds p.at_ms.now us on turn time l.x ∙ l.invariant.0,
      ap (λ (z : Float). plus delay (add binary64 l.y z) next) (c.exact-y.ensures ∙ ap (of_int binary64) (to_z-of_z w64 us fits)) ∙ plus_next n m ts ds p.at_ms.now us on turn delay l.y ∙ l.invariant.1,
      sym (samples_next n m ts ds p.at_ms.now us on turn ∙ ap (λ (b : Bool). b && samples_ok next) here) ∙ l.invariant.2,
    )

pub returns : goal.returns
returns c =
    let a = c.args in
    let l = c.loop-at_ms in
    let ts = a.times.now in
    let ds = a.delays.now in
    let end = zip_end ts ds l.yielded c.into_iter-at_ms-iterator.result l.at_ms-iterator c.next.new.self c.next.result (search rules) (search rules) l.yielded_by c.in-None.is c.next.ensures.steps in
    let n = length l.yielded in
    let x : l.x ≡ plus time a.start.x (pairs ts ds) = sym (plus_over n ts ds c.requires end time l.x) ∙ l.invariant.0 in
    let y : l.y ≡ plus delay a.start.y (pairs ts ds) = sym (plus_over n ts ds c.requires end delay l.y) ∙ l.invariant.1 in
    let good : samples_ok (pairs ts ds) ≡ true = sym l.invariant.2 ∙ samples_over n ts ds c.requires end in
    rw (x, y) (summed_accepted a.start.x a.start.y (pairs ts ds) good)
