use Rattle.std.proofs.Common.{◌≡◌}
use Rattle.cell_rows.specs.CellMap.{no_values, values_in}
use Rattle.cell_rows.proofs.cells.Cells.new.Given as goal

abbrev pub invariant-loop-array : goal.invariant-loop-array
invariant-loop-array g l = values_in l.cells ≡ no_values
