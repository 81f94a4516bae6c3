use Rattle.std.proofs.Common.{length}
use Rattle.loop_walk.specs.Walks.{IsWalkOf, rest}
use Rattle.source_tests.proofs.sweeps.trace_of.Given as goal

abbrev pub invariant-loop-point : goal.invariant-loop-point
invariant-loop-point l = record { walk : IsWalkOf l.nest l.walk }

abbrev pub decreases-loop-point : goal.decreases-loop-point
decreases-loop-point l = length (rest l.nest l.walk)
