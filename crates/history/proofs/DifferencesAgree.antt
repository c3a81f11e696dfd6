-- The difference D that history's exact side reads off two frames is that of `samples`, and so is the grace.
use Rattle.std.specs.Prelude.{None, Option, Some}
use mathlib.Core.Path.{◌≡◌, refl, ap, ◌∙◌}
use mathlib.Core.Bool.{Bool, true, false, cond}
use Prim.Native.Nat.{ℕ, suc, ◌+◌, ◌-◌, ◌%◌, ◌^◌, ◌≤◌, ◌<◌}
use native.Mathlib.Omega.{arith}
use lib.Dec.{ltb}
use lib.IntN.{ℤ, pos, negsuc, sub_ℕ, ◌+ℤ◌, ◌-ℤ◌, ◌*ℤ◌}
use mir.Syntax.{w32}
use mir.Val.{to_z}
use borrow.Author.Tests.{ltb-true, ltb-false, lt-ltb, le-ltb}
use Rattle.samples.specs.Words as words
use Rattle.samples.specs.Transit.{in_grace, transit}
use Rattle.samples.proofs.Differences.{minus}
use Rattle.samples.proofs.Reduction.{modulo_below}
use Rattle.history.specs.ExactJitter as exact

-- the deadline as a record keeps it
abbrev pub grace_in : Option ℕ → exact.Grace
grace_in None = exact.no_grace
grace_in (Some deadline) = exact.until deadline

pub grace_agrees : (o : Option ℕ) (now : ℕ) → exact.before_deadline (grace_in o) now ≡ in_grace o now
unfolding exact.before_deadline
grace_agrees None now = refl
grace_agrees (Some deadline) now = refl

-- half a span more is half a span more of what is left
half_more : (z : ℤ) → exact.over_spans (z +ℤ pos (2 ^ 31)) ≡ (words.modulo z + 2 ^ 31) % 2 ^ 32
unfolding exact.over_spans words.modulo
half_more (pos n) = omega arith
half_more (negsuc n) = go (ltb (2 ^ 31) (suc n)) (ltb-true (2 ^ 31) (suc n)) (ltb-false (2 ^ 31) (suc n))
  where
    go : (t : Bool) → (t ≡ true → 2 ^ 31 < suc n) → (t ≡ false → suc n ≤ 2 ^ 31) →
        exact.over_spans (cond t (negsuc (suc n - suc (2 ^ 31))) (pos (2 ^ 31 - suc n))) ≡ (words.modulo (negsuc n) + 2 ^ 31) % 2 ^ 32
    go true l g = let x = l refl in omega arith
    go false l g = let x = g refl in omega arith

-- 32 bits read as signed
as_signed_lem : (r : ℕ) → r < 2 ^ 32 → sub_ℕ ((r + 2 ^ 31) % 2 ^ 32) (2 ^ 31) ≡ to_z w32 r
as_signed_lem r h = go (ltb r (2 ^ 31)) (ltb-true r (2 ^ 31)) (ltb-false r (2 ^ 31))
  where
    go : (t : Bool) → (t ≡ true → r < 2 ^ 31) → (t ≡ false → 2 ^ 31 ≤ r) → sub_ℕ ((r + 2 ^ 31) % 2 ^ 32) (2 ^ 31) ≡ cond t (pos r) (negsuc (2 ^ 32 - suc r))
    go true l g = let x = l refl in let e : (r + 2 ^ 31) % 2 ^ 32 - 2 ^ 31 ≡ r = omega arith in rw (le-ltb ((r + 2 ^ 31) % 2 ^ 32) (2 ^ 31) (omega arith)) (ap pos e)
    go false l g =
        let x = g refl in
        let e : 2 ^ 31 - suc ((r + 2 ^ 31) % 2 ^ 32) ≡ 2 ^ 32 - suc r = omega arith in
        rw (lt-ltb ((r + 2 ^ 31) % 2 ^ 32) (2 ^ 31) (omega arith)) (ap negsuc e)

pub reduced_agrees : (z : ℤ) → exact.reduced z ≡ words.reduced z
unfolding exact.reduced words.reduced
reduced_agrees z = minus (exact.over_spans (z +ℤ pos (2 ^ 31))) (2 ^ 31) ∙ ap (λ (n : ℕ). sub_ℕ n (2 ^ 31)) (half_more z) ∙ as_signed_lem (words.modulo z) (modulo_below z)

pub difference_agrees : (recv sent now timestamp : ℕ) → exact.difference recv sent now timestamp ≡ transit (now - recv) timestamp sent
unfolding exact.difference transit
difference_agrees recv sent now timestamp = reduced_agrees (pos 1000 *ℤ (pos (now - recv) -ℤ (pos timestamp -ℤ pos sent)))
