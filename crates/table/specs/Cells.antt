-- Cells of a table, and the one test of all its rows. Definitions only.
use Rattle.std.specs.Prelude.{Bool, true, ◌&&◌, List, [], ◌∷◌, ℕ, eqb, ℤ, Float}
use Rattle.std.specs.Float.Ieee.{eq}
use Rattle.std.specs.Int.Signed.{le_z}

-- what the definitions give beside what the table says: a whole number, a signed one, a float
pub data Cell : Type 0 where
  whole : ℕ → ℕ → Cell
  signed : ℤ → ℤ → Cell
  float : Float → Float → Cell

-- the two are equal
abbrev pub agrees : Cell → Bool
agrees (whole given said) = eqb given said
agrees (signed given said) = le_z given said && le_z said given
agrees (float given said) = eq given said

abbrev pub Row : Type 0
Row = List Cell

abbrev pub all_agree : Row → Bool
all_agree [] = true
all_agree (c ∷ row) = agrees c && all_agree row

-- every row of a table
abbrev pub every_row : List Row → Bool
every_row [] = true
every_row (row ∷ rows) = all_agree row && every_row rows
