-- Which case a test picks: a chain of these proves a return under several tests.
use mathlib.Core.Path.{◌≡◌, refl, sym}
use mathlib.Core.Bool.{Bool, true, false, cond, true≢false}

pub yes : {A : Type 0} {b : Bool} {x z : A} (y : A) → b ≡ true → z ≡ x → z ≡ cond b x y
yes {b = true} y taken e = e
yes {b = false} y taken e = absurd (true≢false (sym taken))

pub no : {A : Type 0} {b : Bool} {y z : A} (x : A) → b ≡ false → z ≡ y → z ≡ cond b x y
no {b = true} x left e = absurd (true≢false left)
no {b = false} x left e = e

-- what holds of each case holds of the one picked
pub picked : {A : Type 0} (P : A → Type 0) (b : Bool) {x y : A} → (b ≡ true → P x) → (b ≡ false → P y) → P (cond b x y)
picked P true f g = f refl
picked P false f g = g refl
