-- A sender timestamp that has wrapped is no loss of order: 2^32 more or less in it moves neither D nor the delay.
use mathlib.Core.Path.{◌≡◌, sym, ap, ◌∙◌}
use Prim.Native.Nat.{ℕ, ◌+◌, ◌*◌, ◌^◌}
use native.Mathlib.Omega.{arith}
use lib.IntN.{pos, sub_ℕ, ◌+ℤ◌, ◌-ℤ◌, ◌*ℤ◌}
use Rattle.std.proofs.lemmas.Int.{ints}
use Rattle.samples.specs.Words.{reduced}
use Rattle.samples.specs.Transit.{transit}
use Rattle.samples.specs.Delay.{sent_ms}
use Rattle.samples.proofs.Differences.{minus}
use Rattle.samples.proofs.Reduction.{reduced_again}

-- the steps as one difference
pub steps : (step timestamp last : ℕ) → pos 1000 *ℤ (pos step -ℤ (pos timestamp -ℤ pos last)) ≡ sub_ℕ (1000 * (step + last)) (1000 * timestamp)
steps step timestamp last = rw (← minus (1000 * (step + last)) (1000 * timestamp)) (omega (arith, ints))

-- whole spans taken away once more
taken : (a b spans : ℕ) → reduced (sub_ℕ a (b + 2 ^ 32 * spans)) ≡ reduced (sub_ℕ a b)
taken a b spans =
    let m = 2 ^ 32 * spans in
    let back : sub_ℕ a (b + m) +ℤ pos m ≡ sub_ℕ a b = rw (← minus a (b + m), ← minus a b) (omega (arith, ints)) in
    sym (reduced_again (sub_ℕ a (b + m)) spans) ∙ ap reduced back

pub transit_unwraps : (step timestamp last spans : ℕ) → transit step (timestamp + 2 ^ 32 * spans) last ≡ transit step timestamp last
unfolding transit
transit_unwraps step timestamp last spans =
    let e : 1000 * (timestamp + 2 ^ 32 * spans) ≡ 1000 * timestamp + 2 ^ 32 * (1000 * spans) = omega arith in
    ap reduced (steps step (timestamp + 2 ^ 32 * spans) last)
    ∙ ap (λ (b : ℕ). reduced (sub_ℕ (1000 * (step + last)) b)) e
    ∙ taken (1000 * (step + last)) (1000 * timestamp) (1000 * spans)
    ∙ sym (ap reduced (steps step timestamp last))

pub sent_unwraps : (timestamp from spans : ℕ) → sent_ms timestamp (from + 2 ^ 32 * spans) ≡ sent_ms timestamp from
unfolding sent_ms
sent_unwraps timestamp from spans = ap reduced (minus timestamp (from + 2 ^ 32 * spans)) ∙ taken timestamp from spans ∙ sym (ap reduced (minus timestamp from))
