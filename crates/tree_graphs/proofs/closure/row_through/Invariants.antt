use Rattle.std.proofs.Common.{ℕ, List}
use Rattle.tree_graphs.specs.Closed.{AreBounds, AreEach, IsThrough}
use Rattle.tree_graphs.specs.declared.edges.Edge.{Edge}
use Rattle.tree_graphs.proofs.closure.row_through.Given as goal

abbrev pub invariant-loop-to : goal.invariant-loop-to
invariant-loop-to l = (edges : List Edge) (most : ℕ) → AreBounds edges most l.bounds
    → AreEach l.to (IsThrough edges most l.bounds l.middle l.from) l.row
