use Rattle.std.proofs.Common.{arith}
use Rattle.cell_rows.proofs.RowCells.{with_kept-set}
use Rattle.cell_rows.proofs.cells.Cells.put_in_rows.Goals as goal

pub returns-clause-rows : goal.returns-clause-rows
returns-clause-rows g c =
    let length = c.args.self.now.rows.ok.0 in
    with_kept-set c.args.self.now.rows.items c.args.array c.args.place c.args.value c.index_mut-rows.result.now
    c.put.new.self
    (omega (arith, length, c.requires)) c.index_mut-rows.ensures.value c.in_ok-put.ensures
