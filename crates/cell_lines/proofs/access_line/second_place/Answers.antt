use Rattle.std.proofs.Common.{◌<ℤ◌, ◌∙◌, arith, sym, ap, refl, FitsSigned}
use Rattle.std.specs.Prelude.{is_some}
use mir.Syntax.{w64}
use Rattle.std.proofs.lemmas.Bool.{false≢true}
use Rattle.std.proofs.lemmas.Int.{ints, to_z-of_z}
use Rattle.cell_lines.proofs.LineCells.{second_there}
use Rattle.cell_lines.proofs.access_line.second_place.Goals as goal

pub unreachable-requires : goal.unreachable-requires
unreachable-requires g c =
    let f : FitsSigned w64 c.args.first = c.ranges.first in
    let g : FitsSigned w64 c.args.last = c.ranges.last in
    let found = simp to_z-of_z at c.next_place.ensures in
    let lt : c.args.first <ℤ c.args.last = omega (arith, ints, simp to_z-of_z at c.if-first-last.true) in
    false≢true (ap is_some (sym c.in-None.is ∙ found)
    ∙ second_there c.args.cells.now c.args.outer.now c.args.first c.args.last c.args.access.now _ c.args.end
    lt refl c.requires.begin c.requires.end)
