-- The places of accesses along a loop: they change evenly. Each cell that has one has it by `place_of`.
use Rattle.std.specs.Prelude.{◌≡◌, ℕ, ◌<◌, ◌≤◌, ℤ, pos, ◌+ℤ◌, ◌-ℤ◌, ◌*ℤ◌, ◌≤ℤ◌, List, [], ◌∷◌, ◌++◌, Bool, true, ◌&&◌, Option, Some, is_some, length, unsigned_abs, slice_index_or, int_le, IsTrue}
use Rattle.std.specs.List.{list_all}
use Rattle.std.specs.Option.{option_map_or}
use Rattle.sanlp.specs.declared.nest.Access.{Access}
use Rattle.sanlp.specs.Access.{cell_at}
use Rattle.sanlp.specs.Cells.{Cell, natural}
use Rattle.cell_rows.specs.declared.narrow_access.NarrowStatement.{NarrowStatement}
use Rattle.cell_rows.specs.RowPlaces.{row_limit}
use Rattle.cell_rows.specs.SmallValues.{is_small_value}
use Rattle.cell_lines.specs.declared.statement_lines.Lines.{Lines}
use Rattle.cell_lines.specs.declared.access_line.Line.{Line}

-- the places of cells
abbrev pub Places : Type 0
Places = Cell → Option ℕ

-- the place at a turn, counted from 0
abbrev pub place_along : Line → ℤ → ℕ
place_along line turn = natural (pos line.place +ℤ (turn *ℤ line.step))

-- the numbers of a line are so small that its places have 64 bits
pub record IsShortLine (line : Line) : Type 0 where
  pub place : line.place < row_limit
  pub step : unsigned_abs line.step ≤ row_limit

-- the cell of an access at each value of a loop has the place of the line
pub record IsLineOf (place_of : Places) (at : List ℤ) (first last : ℤ) (access : Access)
    (line : Line) : Type 0 where
  pub short : IsShortLine line
  pub places : (v : ℤ) → first ≤ℤ v → v ≤ℤ last
      → place_of (cell_at (at ++ v ∷ []) access) ≡ Some (place_along line (v -ℤ first))

-- there is one exactly where the first and the last cell have places, since those between then have too
abbrev pub has_line : Places → List ℤ → ℤ → ℤ → Access → Bool
has_line place_of at first last access =
    is_some (place_of (cell_at (at ++ first ∷ []) access))
    && is_some (place_of (cell_at (at ++ last ∷ []) access))

-- at one turn
pub record IsPlacedBy (place_of : Places) (at : List ℤ) (turn : ℤ) (access : Access)
    (line : Line) : Type 0 where
  pub short : IsShortLine line
  pub place : place_of (cell_at at access) ≡ Some (place_along line turn)

-- the same of the first n of these accesses and lines
abbrev pub AreLinesOf : Places → List ℤ → ℤ → ℤ → List Access → List Line → ℕ → Type 0
AreLinesOf place_of at first last accesses lines n =
    (i : ℕ) → i < n → (access : Access) → access ≡ slice_index_or accesses i access
    → (line : Line) → line ≡ slice_index_or lines i line
    → IsLineOf place_of at first last access line

abbrev pub ArePlacedBy : Places → List ℤ → ℤ → List Access → List Line → ℕ → Type 0
ArePlacedBy place_of at turn accesses lines n =
    (i : ℕ) → i < n → (access : Access) → access ≡ slice_index_or accesses i access
    → (line : Line) → line ≡ slice_index_or lines i line → IsPlacedBy place_of at turn access line

-- the lines of a statement's accesses along a loop
pub record AreStatementLines (place_of : Places) (at : List ℤ) (first last : ℤ)
    (accesses : NarrowStatement) (lines : Lines) : Type 0 where
  pub first_small : IsTrue (is_small_value first)
  pub last_small : IsTrue (is_small_value last)
  pub reads : AreLinesOf place_of at first last accesses.reads lines.reads (length accesses.reads)
  pub write : (access : Access) → accesses.write ≡ Some access
      → IsLineOf place_of at first last access lines.write

-- each access of a statement has a line
abbrev pub accesses_have_lines : Places → List ℤ → ℤ → ℤ → NarrowStatement → Bool
accesses_have_lines place_of at first last accesses =
    list_all (has_line place_of at first last) accesses.reads
    && option_map_or (has_line place_of at first last) accesses.write true

-- each access of a statement has a line along a loop that has a turn and whose first and last value are small
abbrev pub have_lines : Places → List ℤ → ℤ → ℤ → NarrowStatement → Bool
have_lines place_of at first last accesses =
    (int_le first last && is_small_value first && is_small_value last)
    && accesses_have_lines place_of at first last accesses

-- at one turn
pub record IsStatementPlaced (place_of : Places) (at : List ℤ) (turn : ℤ)
    (accesses : NarrowStatement) (lines : Lines) : Type 0 where
  pub reads : ArePlacedBy place_of at turn accesses.reads lines.reads (length accesses.reads)
  pub write : (access : Access) → accesses.write ≡ Some access
      → IsPlacedBy place_of at turn access lines.write
