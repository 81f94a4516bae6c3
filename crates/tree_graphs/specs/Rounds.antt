-- The graph of the rows on a writer's point, and cycles through 0.
use Rattle.std.specs.Prelude.{◌≡◌, ℕ, List, length, map, take, Some, slice_get}
use Rattle.tree_graphs.specs.Asked.{depth_of_write, read_of, write_of}
use Rattle.tree_graphs.specs.Closed.{AreClosed, IsBound}
use Rattle.tree_graphs.specs.Edges.{domain_edge_of, AreEdgesOf, IsEdge, IsGraph}
use Rattle.tree_graphs.specs.declared.closure.Bound.{Bound}
use Rattle.tree_graphs.specs.declared.closure.Bounds.{Bounds}
use Rattle.tree_graphs.specs.declared.edges.Edge.{Edge}
use Rattle.tree_graphs.specs.declared.writes.Writes.{Writes}

-- the edges of the rows on the writer's point
pub record IsGraphOf (w : Writes) (edges : List Edge) : Type 0 where
  pub edges_are : AreEdgesOf (read_of w) (write_of w) w.level edges
  pub graph : IsGraph w.vars (depth_of_write w) edges
  pub starts : take (length w.rows.now) edges
      ≡ map (domain_edge_of w.vars) w.rows.now

-- the least sums of edges between its loop variables
abbrev pub AreClosedOf : Writes → List Edge → Bounds → Type 0
AreClosedOf w edges bounds = AreClosed edges (depth_of_write w) 64 (depth_of_write w) bounds

-- an edge from 0, a path and an edge back to 0
pub record RoundIsAsked (edges : List Edge) (vars depth : ℕ) (out : Edge) (out_number : ℕ)
    (bound : Bound) (back : Edge) (back_number : ℕ) : Type 0 where
  pub out_is : slice_get edges out_number ≡ Some out
  pub back_is : slice_get edges back_number ≡ Some back
  pub out_edge : IsEdge vars depth out
  pub back_edge : IsEdge vars depth back
  pub path : IsBound edges 64 out.to back.from bound
  pub first : out.from ≡ depth
  pub last : back.to ≡ depth

-- an edge back to 0, of this number
pub record IsBack (w : Writes) (edges : List Edge) (back : Edge) (number : ℕ) : Type 0 where
  pub is : slice_get edges number ≡ Some back
  pub last : back.to ≡ depth_of_write w
