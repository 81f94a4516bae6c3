use Rattle.std.proofs.Common.{sym, ap, ◌∙◌, pos, Some, get_or, FitsSigned}
use Rattle.std.specs.Int.{w64}
use Rattle.std.proofs.lemmas.Int.{to_z-of_z}
use Rattle.cell_lines.specs.declared.access_line.Line.{Line}
use Rattle.cell_lines.proofs.LineCells.{item_is}
use Rattle.loop_run.proofs.along.read_along.Goals as goal

pub read_at-requires-clause-placed : goal.read_at-requires-clause-placed
read_at-requires-clause-placed c =
    let f : FitsSigned w64 c.args.turn = c.ranges.turn in
    let none : Line = record { place = 0; step = pos 0 } in
    let placed = simp to_z-of_z at c.place_at-place.ensures in
    (c.requires.placed c.loop-slot.slot c.loop-slot-test.true c.index-reads-slot.result c.index-reads-slot.is
    (get_or c.args.lines.now c.loop-slot.slot none) (item_is c.args.lines.now c.loop-slot.slot none)).place
    ∙ ap Some (sym placed)
