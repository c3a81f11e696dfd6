-- The pairs that are left begin with this one.
use Rattle.std.proofs.Common.{◌≡◌, ℕ, ◌+◌, true, ◌&&◌, List, [], ◌∷◌, ◌++◌, length, ℤ, pos, sym, refl, ap, ◌∙◌, rules, w64, SFits, length-append}
use Rattle.std.proofs.lemmas.Slice.Zip.{zip_turn, zip_end}
use mathlib.Core.Bool.{and-eq-true_iff}
use mir.ValLaws.{to_z-of_z}
use lib.Ieee.{Float, binary64, add, sub, mul, of_int}
use Rattle.refusals.specs.Ranges.{delay_ok}
use Rattle.algorithms.specs.Owd.{samples_ok}
use Rattle.algorithms.specs.OwdTrend.{time, delay, product, plus}
use Rattle.algorithms.proofs.OwdStretches.{left_from, plus_next, samples_next, plus_over}
use Rattle.algorithms.proofs.passes.moments_over.Goals as goal

-- where the delays from a slot on are in range, its own is, and so are those after it
parted : (n m : ℕ) (ts : List ℕ) (ds : List ℤ) (d : ℤ) → samples_ok (left_from n ts ds) ≡ (delay_ok d && samples_ok (left_from m ts ds)) → samples_ok (left_from n ts ds) ≡ true
    → (delay_ok d ≡ true) × (samples_ok (left_from m ts ds) ≡ true)
parted n m ts ds d next ok = (and-eq-true_iff (delay_ok d) (samples_ok (left_from m ts ds))).0 (sym next ∙ ok)

pub exact-requires : goal.exact-requires
exact-requires c =
    let l = c.loop-at_ms in
    let p = c.in-Some in
    let ts = c.args.times.now in
    let ds = c.args.delays.now in
    let us = p.owd_us.now in
    let n = length l.yielded in
    let turn = zip_turn ts ds l.yielded c.into_iter-at_ms-iterator.result l.at_ms-iterator c.next.new.self c.next.result (search rules) (search rules) l.yielded_by (p.at_ms, p.owd_us) p.is c.next.ensures.steps in
    let fits : SFits w64 us = search rules in
    ap delay_ok (to_z-of_z w64 us fits) ∙ (parted n (n + 1) ts ds us (samples_next n (n + 1) ts ds p.at_ms.now us refl turn) l.invariant.2).0

pub loop-at_ms-preserved : goal.loop-at_ms-preserved
loop-at_ms-preserved c =
    let a = c.args in
    let l = c.loop-at_ms in
    let p = c.in-Some in
    let ts = a.times.now in
    let ds = a.delays.now in
    let us = p.owd_us.now in
    let n = length l.yielded in
    let m = length (l.yielded ++ (p.at_ms, p.owd_us) ∷ []) in
    let on : m ≡ n + 1 = length-append l.yielded ((p.at_ms, p.owd_us) ∷ []) in
    let turn = zip_turn ts ds l.yielded c.into_iter-at_ms-iterator.result l.at_ms-iterator c.next.new.self c.next.result (search rules) (search rules) l.yielded_by (p.at_ms, p.owd_us) p.is c.next.ensures.steps in
    let fits : SFits w64 us = search rules in
    let both = parted n m ts ds us (samples_next n m ts ds p.at_ms.now us on turn) l.invariant.2 in
    let next = left_from m ts ds in
    let dx = sub binary64 (of_int binary64 (pos p.at_ms.now)) a.mean_x in (
      ap (λ (z : Float). plus (product time a.mean_x delay a.mean_y) (add binary64 l.num (mul binary64 (sub binary64 z a.mean_x) (sub binary64 c.exact.result a.mean_y))) next) c.from.ensures
          ∙ ap (λ (z : Float). plus (product time a.mean_x delay a.mean_y) (add binary64 l.num (mul binary64 dx (sub binary64 z a.mean_y))) next) (c.exact.ensures ∙ ap (of_int binary64) (to_z-of_z w64 us fits))
          ∙ plus_next n m ts ds p.at_ms.now us on turn (product time a.mean_x delay a.mean_y) l.num
          ∙ l.invariant.0,
      ap (λ (z : Float). plus (product time a.mean_x time a.mean_x) (add binary64 l.den (mul binary64 (sub binary64 z a.mean_x) (sub binary64 z a.mean_x))) next) c.from.ensures
          ∙ plus_next n m ts ds p.at_ms.now us on turn (product time a.mean_x time a.mean_x) l.den
          ∙ l.invariant.1,
      both.1,
    )

pub returns : goal.returns
returns c =
    let l = c.loop-at_ms in
    let a = c.args in
    let ts = a.times.now in
    let ds = a.delays.now in
    let end = zip_end ts ds l.yielded c.into_iter-at_ms-iterator.result l.at_ms-iterator c.next.new.self c.next.result (search rules) (search rules) l.yielded_by c.in-None.is c.next.ensures.steps in
    let n = length l.yielded in (
      sym (plus_over n ts ds c.requires.0 end (product time a.mean_x delay a.mean_y) l.num) ∙ l.invariant.0,
      sym (plus_over n ts ds c.requires.0 end (product time a.mean_x time a.mean_x) l.den) ∙ l.invariant.1,
    )
