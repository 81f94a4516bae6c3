use Rattle.std.proofs.Common.{◌≡◌, length, take, true}
use Rattle.std.specs.List.{list_all}
use Rattle.cell_rows.specs.CellMap.{places_in}
use Rattle.cell_lines.specs.LinePlaces.{has_line, AreLinesOf}
use Rattle.cell_lines.proofs.statement_lines.lines_of.Given as goal

abbrev pub invariant-loop-slot : goal.invariant-loop-slot
invariant-loop-slot g l =
    (length l.reads ≡ 8) × AreLinesOf (places_in l.cells) l.outer l.first l.last l.access-items l.reads l.slot
    × (list_all (has_line (places_in l.cells) l.outer l.first l.last) (take l.slot l.access-items) ≡ true)
