use Rattle.std.proofs.Common.{◌≡◌, map}
use Rattle.std.specs.List.{range_with_len}
use Rattle.matrix_load.specs.Cells.{a_cell}
use Rattle.matrix_load.proofs.cells.a_cells.Given as goal

abbrev pub invariant-loop-number : goal.invariant-loop-number
invariant-loop-number l = l.list ≡ map a_cell (range_with_len 0 l.number)
