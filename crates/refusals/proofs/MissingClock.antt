-- A clock that may be missing is in range exactly where the number in its place is.
use mathlib.Core.Path.{◌≡◌, refl, ap, ◌∙◌}
use Prim.Native.Nat.{ℕ}
use Rattle.std.specs.Prelude.{Option, None, Some, unwrap_or}
use Rattle.refusals.specs.Ranges.{clock_ok, optional_clock_ok}

in_range : (ms : Option ℕ) → clock_ok (unwrap_or ms 0) ≡ optional_clock_ok ms
in_range None = refl
in_range (Some n) = refl

pub clock_read : (n : ℕ) (ms : Option ℕ) → n ≡ unwrap_or ms 0 → clock_ok n ≡ optional_clock_ok ms
clock_read n ms e = ap (λ k. clock_ok k) e ∙ in_range ms
