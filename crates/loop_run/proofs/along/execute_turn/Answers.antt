use Rattle.std.proofs.Common.{FitsSigned}
use Rattle.std.specs.Int.{w64}
use Rattle.std.proofs.lemmas.Int.{to_z-of_z}
use Rattle.cell_rows.specs.CellMap.{places_in}
use Rattle.cell_lines.proofs.LineCells.{placed_along}
use Rattle.loop_run.proofs.along.execute_turn.Goals as goal

pub read_along-requires-clause-placed : goal.read_along-requires-clause-placed
read_along-requires-clause-placed c =
    let f : FitsSigned w64 c.args.turn = c.ranges.turn in
    simp to_z-of_z (placed_along (places_in c.args.cells.now) c.args.at.now c.args.turn c.args.accesses.now.reads
    c.as_slice-reads.result.now c.args.lines.now.reads c.as_slice-reads.ensures c.requires.placed.reads)

pub place_at-requires-clause-short : goal.place_at-requires-clause-short
place_at-requires-clause-short c = (c.requires.placed.write c.in-Some.access c.in-Some.is).short
