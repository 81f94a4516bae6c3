use Rattle.std.proofs.Common.{refl}
use Rattle.cell_rows.proofs.CellOrder.{values_with_rows}
use Rattle.cell_rows.proofs.cells.Cells.add_rows.Goals as goal

pub returns : goal.returns
returns g c =
    let old = c.args.self.now in
    values_with_rows old (record { rows = c.push.new.self; room = old.room; map = old.map })
    (record { extents = c.in_ok-from_slice.field-0; values = c.new.result })
    c.in_ok-push.ensures.items c.new.ensures refl
