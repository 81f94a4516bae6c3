use Rattle.tree_graphs.specs.Closed.{AreEach, IsFirst}
use Rattle.tree_graphs.proofs.closure.first_row.Given as goal

abbrev pub invariant-loop-to : goal.invariant-loop-to
invariant-loop-to l = AreEach l.to (IsFirst l.edges l.from) l.row
