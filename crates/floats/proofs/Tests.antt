-- A test of the code as a fact: what a proof learns where a test passed or failed, in the form that the laws of the order take.
use Rattle.std.proofs.Common.{◌≡◌, Bool, true, false, not, T, sym, subst}

-- what `.taken` gives
pub passed : {b : Bool} → b ≡ true → T b
passed e = subst T (sym e) tt

-- what `.left` gives
pub failed : {b : Bool} → b ≡ false → T (not b)
failed e = subst (λ (b : Bool). T (not b)) (sym e) tt
