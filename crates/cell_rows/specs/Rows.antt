-- What is kept in rows.
use Rattle.std.specs.Prelude.{ℕ, zero, suc, ℤ, List, [], ◌∷◌, Option, slice_get}
use Rattle.std.specs.Option.{option_and_then}
use Rattle.sanlp.specs.Cells.{Cell}
use Rattle.cell_rows.specs.declared.cells.Rows.{Rows}
use Rattle.cell_rows.specs.RowPlaces.{place_from, value_at, with_place}

-- the value of a cell in the rows of its array, if it was written there
abbrev pub row_value : {T : Type 0} → Rows T → List ℤ → Option T
row_value row at = option_and_then (value_at row.values) (place_from 0 row.extents at)

-- the place of a cell in the rows of its array
abbrev pub place_in : {T : Type 0} → List (Rows T) → Cell → Option ℕ
place_in rows cell =
    option_and_then (λ row. place_from 0 row.extents cell.1) (slice_get rows cell.0)

-- the value of a cell, if it was written in rows
abbrev pub kept_value : {T : Type 0} → List (Rows T) → Cell → Option T
kept_value rows cell = option_and_then (λ row. row_value row cell.1) (slice_get rows cell.0)

-- the value at a place in the rows of an array, if it was written there
abbrev pub kept_at : {T : Type 0} → List (Rows T) → ℕ → ℕ → Option T
kept_at rows array place = option_and_then (λ row. value_at row.values place) (slice_get rows array)

-- the rows with a value at a place of one array
abbrev pub with_kept : {T : Type 0} → List (Rows T) → ℕ → ℕ → T → List (Rows T)
with_kept [] a place v = []
with_kept (row ∷ rows) zero place v = record row { values = with_place row.values place v } ∷ rows
with_kept (row ∷ rows) (suc a) place v = row ∷ with_kept rows a place v
