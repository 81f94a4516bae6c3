use Rattle.std.proofs.Common.{◌≡◌, take}
use Rattle.matrix_load.specs.Summary.{wrapping_sum}
use Rattle.matrix_load.proofs.summary.wrapping_sum.Given as goal

abbrev pub invariant-loop-cell : goal.invariant-loop-cell
invariant-loop-cell l = l.sum ≡ wrapping_sum (take l.cell-index l.cells)
