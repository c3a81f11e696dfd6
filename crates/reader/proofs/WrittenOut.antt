-- A type with its one MIR type written out: what is made of it, MIR and layout, then computes while the type itself stays open. At a type that has this MIR type it is the type.
use mathlib.Core.List.{[], ◌∷◌}
use mir.Syntax.{Ty}
use denote.RattleType.{RattleType}
use denote.Struct.Field.{Field}

abbrev pub row_as : Ty → RattleType → RattleType
row_as τ R =
    record {
      Denot = R.Denot;
      mir = τ ∷ [];
      written = R.written;
      reaches = R.reaches;
      lives = R.lives;
      own_val = R.own_val;
      exit = R.exit;
      coded = R.coded;
      shr_at = R.shr_at;
    }

abbrev pub field_as : Ty → Field → Field
field_as τ F = record { row = row_as τ F.row; Value = F.Value; into = F.into; into_one = F.into_one }
