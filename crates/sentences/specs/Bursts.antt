-- Document 01, "Jitter, delay trend and bursts", its sentences on bursts, and document 02, W-201, over the counters of the frames of an interval. Definitions only.
use Rattle.std.specs.Prelude.{ℕ, zero, suc, ◌+◌, ◌-◌, ◌*◌, ◌/◌, min, max, Bool, true, false, List, [], ◌∷◌, ◌++◌}

-- the frames missing before each frame, where `highest` is the highest counter so far: none before one that is late or in order
unfoldable pub gaps_after : ℕ → List ℕ → List ℕ
gaps_after highest [] = []
gaps_after highest (counter ∷ rest) = (counter - (highest + 1)) ∷ gaps_after (max highest counter) rest

-- a burst of so many missing frames, which "stops at 65,535", if one is open
abbrev pub closed : Bool → ℕ → List ℕ
closed false missing = []
closed true missing = min missing 65535 ∷ []

-- the lengths of the bursts in these gaps, where one is open or not and has so many missing frames: a gap "counts fully", "both when it begins a burst and
-- when it extends one"; a frame before which none is missing ends it, and "A report closes an open burst"
unfoldable pub lengths : Bool → ℕ → List ℕ → List ℕ
lengths underway missing [] = closed underway missing
lengths underway missing (zero ∷ gaps) = closed underway missing ++ lengths false 0 gaps
lengths underway missing (suc gap ∷ gaps) = lengths true (missing + suc gap) gaps

-- the bursts of an interval that begins outside a burst
abbrev pub bursts : ℕ → List ℕ → List ℕ
bursts highest counters = lengths false 0 (gaps_after highest counters)

unfoldable pub greatest : List ℕ → ℕ
greatest [] = 0
greatest (n ∷ rest) = max n (greatest rest)

unfoldable pub total : List ℕ → ℕ
total [] = 0
total (n ∷ rest) = n + total rest

-- "Mean burst is the smaller of 65,535 and 256 × total / count rounded down (0 for none)"
unfoldable pub mean : ℕ → ℕ → ℕ
mean total zero = 0
mean total (suc n) = min 65535 (256 * total / suc n)
