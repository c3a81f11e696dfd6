-- The capacity of a delay window: document 02, W-202, "Capacity is clamped to 2 to 256, and the state rule follows". Definitions only.
use Rattle.std.specs.Prelude.{◌≡◌, ℕ, ◌≤◌}

-- its ends: of a requested size, and in the state rule
abbrev pub least : ℕ
least = 2

abbrev pub greatest : ℕ
greatest = 256

-- the capacity that a requested size gets
pub record Clamped (requested capacity : ℕ) : Type 0 where
  pub below : requested ≤ least → capacity ≡ least
  pub within : least ≤ requested → requested ≤ greatest → capacity ≡ requested
  pub above : greatest ≤ requested → capacity ≡ greatest
