-- What a rule of two clauses says of each.
use mathlib.Core.Path.{◌≡◌, refl}
use mathlib.Core.Bool.{Bool, true, false, ◌&&◌, ◌||◌, true≢false, and-eq-true_iff}

-- ---- both hold
pub both : (a b : Bool) → (a && b) ≡ true → (a ≡ true) × (b ≡ true)
both a b h = (and-eq-true_iff a b).0 h

pub left : (a b : Bool) → (a && b) ≡ true → a ≡ true
left a b h = (both a b h).0

pub right : (a b : Bool) → (a && b) ≡ true → b ≡ true
right a b h = (both a b h).1

pub joined : {a b : Bool} → a ≡ true → b ≡ true → (a && b) ≡ true
joined {a} {b} ha hb = (and-eq-true_iff a b).1 (ha, hb)

-- ---- one holds
pub either : (a b : Bool) → (a || b) ≡ true → a ≡ false → b ≡ true
either true b h e = absurd (true≢false e)
either false b h e = h

pub or : (a b : Bool) → (a ≡ false → b ≡ true) → (a || b) ≡ true
or true b h = refl
or false b h = h refl
