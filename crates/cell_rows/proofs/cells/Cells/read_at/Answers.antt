use Rattle.std.proofs.Common.{sym}
use Rattle.sanlp.specs.Access.{cell_at}
use Rattle.cell_rows.proofs.CellPlaces.{not_kept_there, value_at_place, value_in_map}
use Rattle.cell_rows.proofs.cells.Cells.read_at.Goals as goal

pub returns-in-Some : goal.returns-in-Some
returns-in-Some g c =
    value_at_place c.args.self.now
    (cell_at c.args.at.now c.args.access.now) c.array.result c.args.place c.in-Some.value c.array.ensures
    c.requires.placed
    (sym c.in-Some.ensures)

pub returns-in-None : goal.returns-in-None
returns-in-None g c =
    let cell = cell_at c.args.at.now c.args.access.now in
    value_in_map c.args.self.now cell c.mapped.result
    (not_kept_there c.args.self.now cell c.array.result c.args.place c.array.ensures c.requires.placed
    (sym c.in-None.ensures)) c.mapped.ensures
