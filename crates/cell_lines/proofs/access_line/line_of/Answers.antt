use Rattle.std.proofs.Common.{◌∙◌, sym, FitsSigned}
use mir.Syntax.{w64}
use Rattle.std.proofs.lemmas.Int.{to_z-of_z}
use Rattle.cell_lines.proofs.LineCells.{line_in_rows, placed_limit, second_limit}
use Rattle.cell_lines.proofs.access_line.line_of.Goals as goal

pub line_through-requires : goal.line_through-requires
line_through-requires g c =
    let start = sym c.place_inside.ensures ∙ c.in_ok-place.was in
    let end = sym c.place_inside-2.ensures ∙ c.in_ok-end.was in
    let next = c.second_place-next.ensures in
    record {
      place = placed_limit c.args.cells.now _ c.in_ok-place.place start;
      next = second_limit c.args.cells.now _ _ _ c.second_place-next.result c.in_ok-end.end
          (placed_limit c.args.cells.now _ c.in_ok-end.end end) next.second next.none;
    }

pub returns-clause-line : goal.returns-clause-line
returns-clause-line g c =
    let f : FitsSigned w64 c.args.first = c.ranges.first in
    let g : FitsSigned w64 c.args.last = c.ranges.last in
    let start = simp to_z-of_z at c.place_inside.ensures in
    let end = simp to_z-of_z at c.place_inside-2.ensures in
    let second = simp to_z-of_z at c.second_place-next.ensures.second in
    let none = simp to_z-of_z at c.second_place-next.ensures.none in
    line_in_rows c.args.cells.now c.args.outer.now c.args.first c.args.last c.args.access.now c.in_ok-place.place
    c.in_ok-end.end c.second_place-next.result c.line_through.result
    c.requires.turns (sym start ∙ c.in_ok-place.was)
    (sym end ∙ c.in_ok-end.was) second none c.line_through.ensures.line c.line_through.ensures.short
