use Rattle.std.proofs.Common.{FitsSigned}
use Rattle.std.specs.Int.{w64}
use Rattle.std.proofs.lemmas.Int.{to_z-of_z}
use Rattle.cell_rows.specs.CellMap.{places_in}
use Rattle.cell_lines.proofs.LineCells.{placed_along}
use Rattle.shadow_sweep.proofs.along.pass_turn.Goals as goal

pub add_sources_along-requires-clause-placed : goal.add_sources_along-requires-clause-placed
add_sources_along-requires-clause-placed c =
    let f : FitsSigned w64 c.args.turn = c.ranges.turn in
    simp to_z-of_z (placed_along (places_in c.args.cells.now) c.args.at.now c.args.turn c.args.accesses.now.reads
    c.as_slice.result.now c.args.lines.now.reads c.as_slice.ensures c.requires.placed.reads)

pub note_write_along-requires-clause-placed : goal.note_write_along-requires-clause-placed
note_write_along-requires-clause-placed c =
    let f : FitsSigned w64 c.args.turn = c.ranges.turn in
    simp to_z-of_z (c.requires.placed.write)
