use Rattle.stride_trees.specs.Converted.{turns_left, IsConverting}
use Rattle.stride_trees.proofs.leaves.converted_within.Given as goal

abbrev pub invariant-turns : goal.invariant-turns
invariant-turns l = IsConverting l.w l.rows l.fn.tree l.opens l.part

abbrev pub decreases-turns : goal.decreases-turns
decreases-turns l = turns_left l.opens l.part
