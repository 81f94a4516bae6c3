-- Cycles of rows whose sum is below 0.
use Rattle.std.specs.Prelude.{◌≡◌, ◌<◌, ◌+◌, ◌^◌, ℕ, Bool, List, ◌++◌, length, drop, nat_lt, All, Some, slice_get}
use Rattle.affine_core.specs.declared.form.Form.{Form}
use Rattle.int_polyhedra.specs.declared.system.System.{System}
use Rattle.int_polyhedra.specs.Steps.{negation_of}
use Rattle.tree_order.specs.declared.candidates.Candidate.{Candidate}
use Rattle.int_polyhedra.specs.declared.system.Term.{Term}
use Rattle.tree_graphs.specs.Cycles.{IsContradiction}
use Rattle.tree_graphs.specs.Closed.{AreBounds, IsBound}
use Rattle.tree_graphs.specs.Edges.{AreEdges}
use Rattle.tree_graphs.specs.Facts.{NoRowTells}
use Rattle.tree_graphs.specs.Paths.{terms_from}
use Rattle.tree_graphs.specs.declared.closure.Bound.{Bound}
use Rattle.tree_graphs.specs.declared.closure.Bounds.{Bounds}
use Rattle.tree_graphs.specs.declared.closure.Closure.TheVariants.{Closed}
use Rattle.tree_graphs.specs.declared.cycles.Cycle.{Cycle}
use Rattle.tree_graphs.specs.declared.edges.Edge.{Edge}
use Rattle.tree_sums.specs.Parts.{IsWithin}
use Rattle.source_tree.specs.Places.{order_rows}
use Rattle.source_tree.specs.Rows.{RowExpr}

-- terms of the context and rows of edges behind it add up to a negative number
pub record IsContradicted (context : System) (edges : List Edge) (ts : List Term) : Type 0 where
  pub shown : List Term
  pub rows : List Term
  pub contradiction : IsContradiction context.vars context.rows edges shown rows
  pub is : ts ≡ shown ++ terms_from (length context.rows) rows

-- no row of the context by itself tells that the cycle's form is below 0
abbrev pub NoRowRefutesCycle : System → Cycle → Type 0
NoRowRefutesCycle context cycle =
    (row : Form) → negation_of cycle.form ≡ Some row → NoRowTells context.rows row

-- the sum of no cycle of the candidate's rows between loop variables is a negative number, and no row of the context by itself
-- tells that a cycle through 0 that the candidate keeps is below 0
pub record NoRowRefutes (context : System) (c : Candidate) : Type 0 where
  pub bounds : Bounds
  pub closed : c.closure ≡ Closed bounds
  pub cycles : All (NoRowRefutesCycle context) c.cycles

-- the rows of the edges have numbers behind the context
abbrev pub AreRefuting : System → List Edge → Type 0
AreRefuting context edges = length context.rows + length edges < 2 ^ 32

-- the edge has a small weight over so many variables
pub record IsNearEdge (vars : ℕ) (g : Edge) : Type 0 where
  pub over : length g.weight.coefs ≡ vars
  pub within : IsWithin (2 ^ 49) g.weight

-- an edge from a node, a path, and an edge back to the node
pub record RoundIsNear (edges : List Edge) (vars : ℕ) (out : Edge) (out_number : ℕ) (bound : Bound)
    (back : Edge) (back_number : ℕ) : Type 0 where
  pub out_is : slice_get edges out_number ≡ Some out
  pub back_is : slice_get edges back_number ≡ Some back
  pub out_near : IsNearEdge vars out
  pub back_near : IsNearEdge vars back
  pub path : IsBound edges 64 out.to back.from bound
  pub same : out.from ≡ back.to

-- least sums of the first edges, and an edge back to the node that stands for 0
pub record IsBackTo (context : System) (own edges : List Edge) (bounds : Bounds) (zero : ℕ)
    (back : Edge) (number : ℕ) : Type 0 where
  pub fit : AreRefuting context edges
  pub begins : (more : List Edge) × (edges ≡ own ++ more)
  pub near : All (IsNearEdge context.vars) edges
  pub bounds_are : AreBounds own 64 bounds
  pub is : slice_get edges number ≡ Some back
  pub last : back.to ≡ zero

-- these edges have numbers from this one on
abbrev pub AreNumbered : List Edge → List Edge → ℕ → Type 0
AreNumbered edges some number =
    (more : List Edge) × (drop number edges ≡ some ++ more)

-- edges with numbers from this one on, and an edge back
pub record AreOut (context : System) (own edges : List Edge) (bounds : Bounds) (zero : ℕ)
    (outs : List Edge) (number : ℕ) (back : Edge) (back_number : ℕ) : Type 0 where
  pub to : IsBackTo context own edges bounds zero back back_number
  pub numbered : AreNumbered edges outs number

-- two lists of edges with numbers from these on
pub record AreBack (context : System) (own edges : List Edge) (bounds : Bounds) (zero : ℕ)
    (outs : List Edge) (first : ℕ) (backs : List Edge) (number : ℕ) : Type 0 where
  pub fit : AreRefuting context edges
  pub begins : (more : List Edge) × (edges ≡ own ++ more)
  pub near : All (IsNearEdge context.vars) edges
  pub bounds_are : AreBounds own 64 bounds
  pub numbered : AreNumbered edges outs first
  pub backs_numbered : AreNumbered edges backs number

-- edges were added for the order rows of a place before a writer's point, from this loop on
abbrev pub AddsOrderEdges : List Form → ℕ → ℕ → ℕ → Bool → List Edge → List Edge → Type 0
AddsOrderEdges place at none level within old new =
    (c : ℕ) (less : Bool) (point : List Form) (before order : List RowExpr)
    → none ≡ length point → within ≡ nat_lt level c
    → slice_get (order_rows c less place (drop at point)) level ≡ Some order
    → AreEdges point before old → AreEdges point (before ++ order) new
