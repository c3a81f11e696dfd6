-- The expected counter is one above the highest that came, saturating at 64 bits, whatever order they came in.
use mathlib.Core.Path.{◌≡◌, refl}
use mathlib.Core.Bool.{Bool, true, false, cond}
use Prim.Native.Nat.{ℕ, ◌+◌, ◌≤◌, ◌<◌, min, max}
use native.Mathlib.Omega.{arith}
use lib.Dec.{leb}
use borrow.Author.Tests.{leb-true, leb-false}
use Rattle.gaps.specs.Gaps.{max_counter, next_after}

pub due_follows : (highest counter : ℕ) → next_after (min (highest + 1) max_counter) counter ≡ min (max highest counter + 1) max_counter
unfolding next_after
due_follows highest counter = go (leb (min (highest + 1) max_counter) counter) (leb-true (min (highest + 1) max_counter) counter) (leb-false (min (highest + 1) max_counter) counter)
  where
    go : (t : Bool) → (t ≡ true → min (highest + 1) max_counter ≤ counter) → (t ≡ false → counter < min (highest + 1) max_counter) →
        cond t (min (counter + 1) max_counter) (min (highest + 1) max_counter) ≡ min (max highest counter + 1) max_counter
    go true l g = let a = l refl in omega arith
    go false l g = let a = g refl in omega arith
