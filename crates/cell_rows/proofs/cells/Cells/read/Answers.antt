use Rattle.std.proofs.Common.{sym}
use Rattle.sanlp.specs.Access.{cell_at}
use Rattle.cell_rows.proofs.CellPlaces.{not_kept, value_in_map}
use Rattle.cell_rows.proofs.cells.Cells.read.Goals as goal

pub returns-in-None : goal.returns-in-None
returns-in-None g c =
    let cell = cell_at c.args.at.now c.args.access.now in
    value_in_map c.args.self.now cell c.mapped.result
    (not_kept c.args.self.now cell (sym c.in-None.ensures)) c.mapped.ensures
