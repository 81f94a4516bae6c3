-- What is kept, as a map from cells.
use Rattle.std.specs.Prelude.{ℕ, Option, None}
use Rattle.std.specs.Ordering.{nat_cmp, int_cmp, ordering_then}
use Rattle.std.specs.declared.cmp.Ordering.{Ordering}
use Rattle.std.specs.Cmp.Lexicographic.{slice_cmp}
use Rattle.std.specs.BTreeMap.{get}
use Rattle.std.specs.Option.{option_or}
use Rattle.sanlp.specs.Cells.{Cell}
use Rattle.cell_rows.specs.declared.cells.Cells.{Cells}
use Rattle.cell_rows.specs.Rows.{kept_value, place_in}

-- the order of cells: by the array, and then by the subscripts
abbrev pub cell_cmp : Cell → Cell → Ordering
cell_cmp c d = ordering_then (nat_cmp c.0 d.0) (slice_cmp int_cmp c.1 d.1)

-- what is kept of a cell in the rows of its array, or else in the map
unfoldable pub values_in : {T : Type 0} → Cells T → Cell → Option T
values_in cells cell = option_or (kept_value cells.rows.items cell) (get cell_cmp cells.map cell)

-- the place of a cell in the rows of its array, if it has one there
unfoldable pub places_in : {T : Type 0} → Cells T → Cell → Option ℕ
places_in cells cell = place_in cells.rows.items cell

-- nothing is kept
abbrev pub no_values : {T : Type 0} → Cell → Option T
no_values cell = None
