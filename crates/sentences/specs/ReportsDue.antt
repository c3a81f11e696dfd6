-- Document 01, "Reports due", and what its checks say of a smoothed value of 0 or less. Definitions only.
use Rattle.std.specs.Prelude.{ℕ, ◌+◌, ◌*◌, ◌/◌, ◌≤◌, ◌<◌, min, max, ◌≡◌, true, [], ◌∷◌, ℤ, pos, get_or}
use Rattle.std.specs.Int.Signed.{le_z}

-- so many times SRTT, "in whole ms, clamped"
abbrev pub interval : ℕ → ℕ → ℕ → ℕ → ℕ
interval times lo hi us = min hi (max lo (times * us / 1000))

-- an update from so many times SRTT that nothing refuses: the interval before and after it, and the updates counted before and after
pub record Updated (times : ℕ) (srtt : ℤ) (before after count counted : ℕ) : Type 0 where
  -- "floor 200 for the first five updates, then 1,000; top 5,000"
  pub first_five : (us : ℕ) → srtt ≡ pos us → 1 ≤ us → count < 5 → after ≡ interval times 200 5000 us
  pub then_on : (us : ℕ) → srtt ≡ pos us → 1 ≤ us → 5 ≤ count → after ≡ interval times 1000 5000 us
  -- "A smoothed value of 0 or less .. leaves the interval, yet `update_report_interval_from_srtt` .. counts it among the first five"; the count is of 32 bits
  pub left : le_z srtt (pos 0) ≡ true → after ≡ before
  pub counts : counted ≡ min (count + 1) 4294967295

-- the same between the caller's bounds; `update_report_interval_from_srtt` "alone counts updates"
pub record Bounded (times lo hi : ℕ) (srtt : ℤ) (before after count counted : ℕ) : Type 0 where
  pub between : (us : ℕ) → srtt ≡ pos us → 1 ≤ us → after ≡ interval times lo hi us
  pub left : le_z srtt (pos 0) ≡ true → after ≡ before
  pub counts : counted ≡ count

-- "Send failures multiply the sender's by 2, 4, 8, 16, 32, then 32"
abbrev pub multiplied : ℕ → ℕ
multiplied failures = get_or (1 ∷ 2 ∷ 4 ∷ 8 ∷ 16 ∷ 32 ∷ []) failures 32
