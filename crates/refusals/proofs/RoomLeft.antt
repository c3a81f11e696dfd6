-- A counter holds a sum exactly where it is at most what the sum's other part leaves of the range.
use mathlib.Core.Path.{◌≡◌, refl, sym}
use mathlib.Core.Bool.{Bool, true, false}
use Prim.Native.Nat.{ℕ, ◌+◌, ◌-◌, ◌<◌}
use native.Mathlib.Omega.{arith}
use lib.Dec.{leb, ltb}
use borrow.Author.Tests.{leb-true, leb-false, lt-ltb, le-ltb}

pub room_left : (range count more : ℕ) → more < range → leb count (range - 1 - more) ≡ ltb (count + more) range
room_left range count more h = go (leb count (range - 1 - more)) refl
  where
    go : (b : Bool) → leb count (range - 1 - more) ≡ b → b ≡ ltb (count + more) range
    go true e = sym (lt-ltb (count + more) range (omega (arith, leb-true count (range - 1 - more) e)))
    go false e = sym (le-ltb (count + more) range (omega (arith, leb-false count (range - 1 - more) e)))
