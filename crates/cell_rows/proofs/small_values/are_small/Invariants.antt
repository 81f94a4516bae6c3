use Rattle.std.proofs.Common.{◌≡◌, take, true}
use Rattle.cell_rows.specs.SmallValues.{are_small_values}
use Rattle.cell_rows.proofs.small_values.are_small.Given as goal

abbrev pub invariant-loop-value : goal.invariant-loop-value
invariant-loop-value l = are_small_values (take l.value-index l.values) ≡ true
