use Rattle.std.proofs.Common.{◌≡◌, ◌+◌, ◌-◌, ◌++◌}
use Rattle.source_check.proofs.systems.place.Given as goal
use Rattle.source_tree.specs.Places.{variables}

abbrev pub invariant-loop-i : goal.invariant-loop-i
invariant-loop-i l = l.place ++ variables (l.first + l.i) (l.count - l.i) ≡ variables l.first l.count
