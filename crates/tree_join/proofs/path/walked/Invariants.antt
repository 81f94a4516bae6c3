use Rattle.tree_join.specs.Walking.{turns_left, IsUnderWay}
use Rattle.tree_join.proofs.path.walked.Given as goal

abbrev pub invariant-turns : goal.invariant-turns
invariant-turns l = IsUnderWay l.task l.walk l.step

abbrev pub decreases-turns : goal.decreases-turns
decreases-turns l = turns_left l.walk l.step
