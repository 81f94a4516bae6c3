-- What is known of the places of statements' accesses along their innermost loops.
use Rattle.std.specs.Prelude.{◌≡◌, ℕ, ◌<◌, pos, List, [], None, length, slice_index_or, IfSome}
use Rattle.cell_rows.specs.declared.narrow_access.NarrowStatement.{NarrowStatement}
use Rattle.cell_lines.specs.LinePlaces.{AreStatementLines, Places}
use Rattle.shadow_sweep.specs.declared.stretch.Stretch.{Stretch}

-- nothing is known
abbrev pub no_stretch : Stretch
no_stretch =
    record {
      outer = [];
      begun = pos 0;
      seen = pos 0;
      first = pos 1;
      last = pos 0;
      lines = None;
    }

-- the lines of a stretch, if it has any, are those of these accesses along it
abbrev pub IsStretchOf : Places → NarrowStatement → Stretch → Type 0
IsStretchOf place_of accesses stretch =
    IfSome stretch.lines
    (AreStatementLines place_of stretch.outer stretch.first stretch.last accesses)

-- one stretch for each statement
pub record AreStretchesOf (place_of : Places) (accesses : List NarrowStatement)
    (stretches : List Stretch) : Type 0 where
  pub many : length stretches ≡ length accesses
  pub known : (i : ℕ) → i < length accesses
      → (statement : NarrowStatement) → statement ≡ slice_index_or accesses i statement
      → (stretch : Stretch) → stretch ≡ slice_index_or stretches i stretch
      → IsStretchOf place_of statement stretch
