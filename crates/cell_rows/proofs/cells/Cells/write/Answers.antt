use Rattle.std.proofs.Common.{refl, sym, ap, ◌∙◌}
use Rattle.std.specs.Prelude.{Some}
use Rattle.std.specs.Map.{update}
use Rattle.sanlp.specs.Access.{cell_at}
use Rattle.sanlp.specs.Memory.{is_cell}
use Rattle.cell_rows.specs.CellMap.{values_in}
use Rattle.cell_rows.specs.Rows.{kept_value}
use Rattle.cell_rows.proofs.CellOrder.{values_after_map}
use Rattle.cell_rows.proofs.CellPlaces.{not_kept, places_after_map}
use Rattle.cell_rows.proofs.cells.Cells.write.Goals as goal

pub returns-in_ok-insert-in-None-clause-values : goal.returns-in_ok-insert-in-None-clause-values
returns-in_ok-insert-in-None-clause-values g c =
    let old = c.args.self.now in
    let none = not_kept old (cell_at c.args.at.now c.args.access.now) (sym c.in-None.ensures) in
    values_after_map old
    (record { rows = old.rows; room = old.room; map = c.insert.new.self }) c.cell.result c.args.value refl
    (ap (kept_value old.rows.items) c.cell.ensures ∙ none) c.in_ok-insert-in-None.ensures.updates.0
    ∙ ap (λ cell. update is_cell (values_in old) cell (Some c.args.value)) c.cell.ensures

pub returns-in_ok-insert-in-None-clause-places : goal.returns-in_ok-insert-in-None-clause-places
returns-in_ok-insert-in-None-clause-places g c =
    let old = c.args.self.now in
    places_after_map old (record { rows = old.rows; room = old.room; map = c.insert.new.self }) refl
