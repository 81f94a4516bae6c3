use Rattle.tree_graphs.specs.Closed.{AreEach, IsFirst}
use Rattle.tree_graphs.proofs.closure.first_bounds.Given as goal

abbrev pub invariant-loop-from : goal.invariant-loop-from
invariant-loop-from l = AreEach l.from (λ from row. AreEach l.depth (IsFirst l.edges from) row) l.of
