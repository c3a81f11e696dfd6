-- A sample's age is below 2^30 ms, so its delay is within ±2^42 µs: a pushed sample always answers yes to question 5.
use Rattle.std.specs.Prelude.{None, Option, Some}
use Rattle.std.proofs.lemmas.Int.{ints}
use mathlib.Core.Path.{◌≡◌, ap, ◌∙◌}
use mathlib.Core.Bool.{true}
use Prim.Native.Nat.{ℕ, suc, ◌+◌, ◌-◌, ◌*◌, ◌^◌, ◌≤◌, ◌<◌}
use native.Mathlib.Omega.{arith}
use lib.IntN.{ℤ, pos, negsuc, sub_ℕ, ◌-ℤ◌, ◌*ℤ◌}
use borrow.Author.Tests.{leb-false}
use mir.Syntax.{w32}
use mir.Val.{SFits, to_z}
use mir.Facts.{to_z-neg}
use Rattle.refusals.specs.Ranges.{delay_ok}
use Rattle.refusals.proofs.PickedByTest.{picked}
use Rattle.samples.specs.Words.{reduced}
use Rattle.samples.specs.Delay.{span, too_old, younger, base_of, age_of, sent_ms, delay_us, delay_of}
use Rattle.samples.specs.declared.delay.OwdBase.{OwdBase}
use Rattle.samples.proofs.Differences.{minus}
use Rattle.samples.proofs.Reduction.{reduced_fits}

pub age_below : (r : Option OwdBase) (timestamp now : ℕ) → age_of r timestamp now < span
unfolding age_of younger
age_below None timestamp now = omega arith
age_below (Some b) timestamp now = picked (λ (d : OwdBase). now - d.recv_ms < span) (too_old b.recv_ms now) (λ e. omega arith) (leb-false span (now - b.recv_ms))

-- a difference read as signed, by its sign
pub near : (age word : ℕ) → word < 2 ^ 31 → delay_us age (to_z w32 word) ≡ sub_ℕ (1000 * age) (1000 * word)
unfolding delay_us
near age word h = rw (← minus (1000 * age) (1000 * word)) (omega (arith, ints))

pub far : (age word : ℕ) → 2 ^ 31 ≤ word → word < 2 ^ 32 → delay_us age (to_z w32 word) ≡ pos (1000 * (age + (2 ^ 32 - word)))
unfolding delay_us
far age word h l =
    let n = 2 ^ 32 - suc word in
    let e : word ≡ 2 ^ 32 - suc n = omega arith in
    let t : to_z w32 word ≡ negsuc n = ap (to_z w32) e ∙ to_z-neg w32 n (omega arith) in
    let s : suc n ≡ 2 ^ 32 - word = omega arith in
    ap (λ z. pos 1000 *ℤ (pos age -ℤ z)) t ∙ ap (λ (k : ℕ). pos (1000 * (age + k))) s

in_range : (age : ℕ) (sent : ℤ) → age < span → SFits w32 sent → delay_ok (delay_us age sent) ≡ true
unfolding delay_us
in_range age sent h f = grind (arith, ints)

-- question 5 of the sample that a frame pushes, whatever the reference, the timestamp and the clock
pub delay_in_range : (r : Option OwdBase) (timestamp now : ℕ) → delay_ok (delay_of r timestamp now) ≡ true
unfolding delay_of sent_ms
delay_in_range r timestamp now =
    let from = (base_of r now timestamp).sender_timestamp in
    in_range (age_of r timestamp now) (reduced (pos timestamp -ℤ pos from)) (age_below r timestamp now) (reduced_fits (pos timestamp -ℤ pos from))
