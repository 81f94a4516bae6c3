use Rattle.std.proofs.Common.{◌≡◌, take}
use Rattle.loop_walk.proofs.run.point_of.Given as goal

abbrev pub invariant-loop-value : goal.invariant-loop-value
invariant-loop-value l = l.vector ≡ take l.value-index l.value-items
