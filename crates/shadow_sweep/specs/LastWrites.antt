-- The last writes of cells, and lists of sources as they grow.
use Rattle.std.specs.Prelude.{ℕ, ◌+◌, List, [], ◌∷◌, ◌++◌, Option, Some, None, slice_set, slice_index_or}
use Rattle.std.specs.Map.{update}
use Rattle.sanlp.specs.declared.nest.Tag.{Tag}
use Rattle.sanlp.specs.Cells.{Cell}
use Rattle.sanlp.specs.Memory.{is_cell}
use Rattle.cell_rows.specs.declared.cells.Cells.{Cells}
use Rattle.cell_rows.specs.CellMap.{values_in}

-- for each cell the tag of its last write, or none where it was never written
abbrev pub LastWrites : Type 0
LastWrites = Cell → Option Tag

abbrev pub no_writes : LastWrites
no_writes cell = None

-- cells keep the tag of their last write
abbrev pub writes_in : Cells Tag → LastWrites
writes_in cells = values_in cells

-- one write more
abbrev pub with_write : LastWrites → Cell → Tag → LastWrites
with_write writes cell tag = update is_cell writes cell (Some tag)

-- the same after an entry, which may write a cell
abbrev pub noted : LastWrites → Option Cell → Tag → LastWrites
noted writes None tag = writes
noted writes (Some cell) tag = with_write writes cell tag

-- the lists with a source at the end of one of them
abbrev pub with_source : List (List (Option Tag)) → ℕ → Option Tag → List (List (Option Tag))
with_source lists number source =
    slice_set lists number (slice_index_or lists number [] ++ source ∷ [])

-- the lists with one of these sources at the end of each list from this number on
abbrev pub with_sources : List (List (Option Tag)) → ℕ → List (Option Tag)
    → List (List (Option Tag))
with_sources lists number [] = lists
with_sources lists number (source ∷ sources) =
    with_sources (with_source lists number source) (number + 1) sources
