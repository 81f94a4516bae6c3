use Rattle.std.proofs.Common.{ℕ, refl, ap, ◌∙◌}
use Rattle.std.specs.Prelude.{Some}
use Rattle.std.specs.Map.{update}
use Rattle.std.proofs.lemmas.Result.{on_ok_weaker}
use Rattle.sanlp.specs.Access.{cell_at}
use Rattle.sanlp.specs.Memory.{is_cell}
use Rattle.cell_rows.specs.CellMap.{values_in}
use Rattle.cell_rows.specs.Rows.{kept_value, with_kept}
use Rattle.cell_rows.proofs.CellOrder.{values_after_map, values_after_rows}
use Rattle.cell_rows.proofs.CellPlaces.{not_kept_there, places_after_map, places_after_rows}
use Rattle.cell_rows.proofs.cells.Cells.write_at.Goals as goal

pub returns-then-has_room-clause-values : goal.returns-then-has_room-clause-values
returns-then-has_room-clause-values g c =
    let old = c.args.self.now in
    on_ok_weaker c.put_in_rows.result
    (λ rows. values_after_rows old c.put_in_rows.new.self
    (cell_at c.args.at.now c.args.access.now) c.args.place c.args.value c.requires.placed
    (rows ∙ ap (λ (array : ℕ).
    with_kept old.rows.items array c.args.place c.args.value) c.array-then-has_room.ensures) c.put_in_rows.ensures.map)
    c.put_in_rows.ensures.rows

pub returns-then-has_room-clause-places : goal.returns-then-has_room-clause-places
returns-then-has_room-clause-places g c =
    on_ok_weaker c.put_in_rows.result
    (λ rows. places_after_rows c.args.self.now c.put_in_rows.new.self c.array-then-has_room.result c.args.place
    c.args.value rows)
    c.put_in_rows.ensures.rows

pub returns-in_ok-insert-clause-values : goal.returns-in_ok-insert-clause-values
returns-in_ok-insert-clause-values g c =
    let old = c.args.self.now in
    let none = not_kept_there old
    (cell_at c.args.at.now c.args.access.now) c.array.result c.args.place c.array.ensures c.requires.placed
    (c.has_room.ensures.full c.if-has_room.false) in
    values_after_map old
    (record { rows = old.rows; room = old.room; map = c.insert.new.self }) c.cell.result c.args.value refl
    (ap (kept_value old.rows.items) c.cell.ensures ∙ none) c.in_ok-insert.ensures.updates.0
    ∙ ap (λ cell. update is_cell (values_in old) cell (Some c.args.value)) c.cell.ensures

pub returns-in_ok-insert-clause-places : goal.returns-in_ok-insert-clause-places
returns-in_ok-insert-clause-places g c =
    let old = c.args.self.now in
    places_after_map old (record { rows = old.rows; room = old.room; map = c.insert.new.self }) refl
