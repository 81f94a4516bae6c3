use Rattle.std.proofs.Common.{ℕ, List}
use Rattle.tree_graphs.specs.Closed.{AreBounds, AreEach, IsThrough}
use Rattle.tree_graphs.specs.declared.edges.Edge.{Edge}
use Rattle.tree_graphs.proofs.closure.through.Given as goal

abbrev pub invariant-loop-from : goal.invariant-loop-from
invariant-loop-from l =
    (edges : List Edge) (most : ℕ) → AreBounds edges most l.bounds
    → AreEach l.from (λ from row. AreEach l.depth (IsThrough edges most l.bounds l.middle from) row) l.of
