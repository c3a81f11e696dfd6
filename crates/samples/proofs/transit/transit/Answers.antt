-- Each operation drops whole spans, which make no difference.
use Rattle.std.proofs.Common.{◌≡◌, ℕ, ◌+◌, ◌-◌, ◌*◌, ◌/◌, ◌%◌, ◌^◌, ◌<◌, pos, ◌-ℤ◌, ◌*ℤ◌, sym, ap, ◌∙◌, arith, rules, w32, SFits, to_z}
use native.Mathlib.Nat.{add-mul-mod_self_left}
use mir.ValLaws.{to_z-of_z}
use Rattle.samples.specs.Words.{modulo, reduced}
use Rattle.samples.specs.Transit.{transit}
use Rattle.samples.proofs.Reduction.{modulo_difference}
use Rattle.samples.proofs.WrappedTimestamp.{steps}
use Rattle.samples.proofs.transit.transit.Goals as goal

-- n times 1000, whole spans dropped, where n is so many spans below m
scaled : (n m k : ℕ) → m ≡ n + 2 ^ 32 * k → n * 1000 % 2 ^ 32 ≡ m * 1000 % 2 ^ 32
scaled n m k h =
    let e : n * 1000 + 2 ^ 32 * (k * 1000) ≡ m * 1000 = omega arith in
    sym (add-mul-mod_self_left (n * 1000) (2 ^ 32) (k * 1000)) ∙ ap (λ (x : ℕ). x % 2 ^ 32) e

word : (step timestamp last : ℕ) → timestamp < 2 ^ 32 → last < 2 ^ 32
    → (step % 2 ^ 32 + (2 ^ 32 - (timestamp + (2 ^ 32 - last)) % 2 ^ 32)) % 2 ^ 32 * 1000 % 2 ^ 32 ≡ modulo (pos 1000 *ℤ (pos step -ℤ (pos timestamp -ℤ pos last)))
word step timestamp last h l =
    let n = (step % 2 ^ 32 + (2 ^ 32 - (timestamp + (2 ^ 32 - last)) % 2 ^ 32)) % 2 ^ 32 in
    let m = step + last + (2 ^ 32 - timestamp) in
    let k = m / 2 ^ 32 in
    let same : n ≡ m % 2 ^ 32 = omega arith in
    let e : m * 1000 ≡ 1000 * (step + last) + (2 ^ 32 * 1000 - 1000 * timestamp) = omega arith in
    scaled n m k (omega arith)
    ∙ ap (λ (x : ℕ). x % 2 ^ 32) e
    ∙ sym (modulo_difference (1000 * (step + last)) (1000 * timestamp) 1000 (omega arith))
    ∙ ap modulo (sym (steps step timestamp last))

pub returns : goal.returns
unfolding transit reduced
returns c =
    let a = c.args in
    let fits : SFits w32 c.cast_signed.result = search rules in
    to_z-of_z w32 c.cast_signed.result fits
    ∙ c.cast_signed.ensures
    ∙ ap (to_z w32) (word a.step_ms a.timestamp a.last_timestamp (omega arith) (omega arith))
