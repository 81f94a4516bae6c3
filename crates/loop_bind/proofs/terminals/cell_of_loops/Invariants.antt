use Rattle.std.proofs.Common.{◌≡◌, map}
use Rattle.std.specs.List.{range_with_len}
use Rattle.affine_core.specs.Affine.{variable_form}
use Rattle.loop_bind.proofs.terminals.cell_of_loops.Given as goal

abbrev pub invariant-loop-number : goal.invariant-loop-number
invariant-loop-number l = l.subscripts ≡ map (variable_form l.depth) (range_with_len 0 l.number)
