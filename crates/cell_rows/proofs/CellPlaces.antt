-- Cells whose places in rows are known.
use Rattle.std.proofs.Common.{◌≡◌, ◌<◌, ◌≤◌, ℕ, zero, suc, ℤ, List, [], ◌∷◌, length, get_or, refl, sym, ap, ◌∙◌, arith}
use Rattle.std.specs.Prelude.{Option, Some, None, slice_get}
use Rattle.std.specs.Option.{option_and_then, option_or}
use Rattle.std.specs.BTreeMap.{get}
use Rattle.sanlp.specs.Cells.{Cell}
use Rattle.cell_rows.specs.declared.cells.Cells.{Cells}
use Rattle.cell_rows.specs.declared.cells.Rows.{Rows}
use Rattle.cell_rows.specs.CellMap.{cell_cmp, places_in, values_in}
use Rattle.cell_rows.specs.RowPlaces.{place_from, value_at}
use Rattle.cell_rows.specs.Rows.{kept_at, kept_value, place_in, row_value, with_kept}
use Rattle.cell_rows.proofs.RowCells.{got, value_past}
use Rattle.plain_data.proofs.Options.{option_and_then-some}

-- what rows keep at a cell's place
by_row : {T : Type 0} (o : Option (Rows T)) (at : List ℤ) (place : ℕ)
    → option_and_then (λ row. place_from 0 row.extents at) o ≡ Some place
    → option_and_then (λ row. row_value row at) o ≡ option_and_then (λ row. value_at row.values place) o
by_row None at place e = refl
by_row (Some row) at place e = ap (option_and_then (value_at row.values)) e

kept_by_place : {T : Type 0} (rows : List (Rows T)) (cell : Cell) (place : ℕ) → place_in rows cell ≡ Some place
    → kept_value rows cell ≡ kept_at rows cell.0 place
kept_by_place rows cell place e = by_row (slice_get rows cell.0) cell.1 place e

-- a cell with no place is not kept in rows
without_row : {T : Type 0} (o : Option (Rows T)) (at : List ℤ)
    → option_and_then (λ row. place_from 0 row.extents at) o ≡ None
    → option_and_then (λ row. row_value row at) o ≡ None
without_row None at e = refl
without_row (Some row) at e = ap (option_and_then (value_at row.values)) e

pub not_kept : {T : Type 0} (cells : Cells T) (cell : Cell) → places_in cells cell ≡ None
    → kept_value cells.rows.items cell ≡ None
unfolding places_in
not_kept cells cell e = without_row (slice_get cells.rows.items cell.0) cell.1 e

-- nor is one at whose place nothing is kept
pub not_kept_there : {T : Type 0} (cells : Cells T) (cell : Cell) (array place : ℕ) → array ≡ cell.0
    → places_in cells cell ≡ Some place
    → kept_at cells.rows.items array place ≡ None → kept_value cells.rows.items cell ≡ None
unfolding places_in
not_kept_there cells cell array place same there none =
    kept_by_place cells.rows.items cell place there ∙ ap (λ (a : ℕ). kept_at cells.rows.items a place) (sym same) ∙ none

-- what is kept of a cell that has a place
pub value_at_place : {T : Type 0} (cells : Cells T) (cell : Cell) (array place : ℕ) (v : T) → array ≡ cell.0
    → places_in cells cell ≡ Some place
    → kept_at cells.rows.items array place ≡ Some v → Some v ≡ values_in cells cell
unfolding values_in places_in
value_at_place cells cell array place v same there e =
    let kept : kept_value cells.rows.items cell ≡ Some v =
    kept_by_place cells.rows.items cell place there ∙ ap (λ (a : ℕ). kept_at cells.rows.items a place) (sym same) ∙ e in
    sym (ap (λ o. option_or o (get cell_cmp cells.map cell)) kept)

-- what is kept of a cell in the map alone
pub value_in_map : {T : Type 0} (cells : Cells T) (cell : Cell) (value : Option T)
    → kept_value cells.rows.items cell ≡ None
    → value ≡ get cell_cmp cells.map cell → value ≡ values_in cells cell
unfolding values_in
value_in_map cells cell value none is = is ∙ sym (ap (λ o. option_or o (get cell_cmp cells.map cell)) none)

-- a place past the last, or of no array
pub past_rows : {T : Type 0} (rows : List (Rows T)) (array place : ℕ) (row : Rows T) → array < length rows
    → row ≡ get_or rows array row → length row.values ≤ place
    → kept_at rows array place ≡ None
past_rows rows array place row within there past =
    ap (option_and_then (λ row. value_at row.values place)) (got rows array row within there)
    ∙ value_past row.values place past

pub no_rows : {T : Type 0} (rows : List (Rows T)) (array place : ℕ) → length rows ≤ array
    → kept_at rows array place ≡ None
no_rows [] array place past = refl
no_rows (row ∷ rows) zero place past = absurd (omega arith)
no_rows (row ∷ rows) (suc array) place past = no_rows rows array place (omega arith)

-- a write leaves all places
kept_places : {T : Type 0} (rows : List (Rows T)) (a place : ℕ) (v : T) (n : ℕ) (at : List ℤ)
    → place_in (with_kept rows a place v) (n, at) ≡ place_in rows (n, at)
kept_places [] a place v n at = refl
kept_places (row ∷ rows) zero place v zero at = refl
kept_places (row ∷ rows) zero place v (suc n) at = refl
kept_places (row ∷ rows) (suc a) place v zero at = refl
kept_places (row ∷ rows) (suc a) place v (suc n) at = kept_places rows a place v n at

pub places_after_rows : {T : Type 0} (old new : Cells T) (array place : ℕ) (v : T)
    → new.rows.items ≡ with_kept old.rows.items array place v
    → places_in new ≡ places_in old
unfolding places_in
places_after_rows {T} old new array place v rows = λ i cell. (
    ap (λ (rs : List (Rows T)). place_in rs cell) rows ∙ kept_places old.rows.items array place v cell.0 cell.1) i

pub places_after_map : {T : Type 0} (old new : Cells T) → new.rows.items ≡ old.rows.items
    → places_in new ≡ places_in old
unfolding places_in
places_after_map {T} old new rows = λ i cell. (ap (λ (rs : List (Rows T)). place_in rs cell) rows) i

-- the array of a cell that has a place has extents, by which all its cells have theirs
pub has_extents : {T : Type 0} (cells : Cells T) (cell : Cell) (place : ℕ) → places_in cells cell ≡ Some place
    → (extents : List ℤ) × ((at : List ℤ) → places_in cells (cell.0, at) ≡ place_from 0 extents at)
unfolding places_in
has_extents {T} cells cell place there =
    let row =
    option_and_then-some (λ (row : Rows T). place_from 0 row.extents cell.1) (slice_get cells.rows.items cell.0) place there in
    (row.0.extents, λ at. ap (option_and_then (λ (row : Rows T). place_from 0 row.extents at)) row.1)
