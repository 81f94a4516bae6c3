-- What is asked where cycles are made.
--
-- Nothing is proved of a cycle here. What the functions below ask is told by where edges come from: an edge of the
-- graph has small numbers, the bound between two of its nodes is a path of at most 64 edges, and so the sums stay
-- small. A list of cycles keeps its property where one is added or exchanged.
use Rattle.std.proofs.Common.{◌≡◌, ◌+◌, ◌^◌, ◌≤◌, ℕ, List, [], ◌∷◌, ◌++◌, length, sym, ◌∙◌, subst, arith}
use Rattle.std.specs.Prelude.{Some, All, slice_get, slice_set, unsigned_abs, IfSome}
use Rattle.std.proofs.lemmas.List.Elements.{All-append, All-cons, All-nil, All-set}
use Rattle.affine_core.specs.Affine.{form_sum}
use Rattle.tree_graphs.specs.Cycles.{IsCycle}
use Rattle.tree_graphs.specs.Asked.{depth_of_write}
use Rattle.tree_graphs.specs.Closed.{bound_at, IsBound}
use Rattle.tree_graphs.specs.Edges.{IsEdge}
use Rattle.tree_graphs.specs.Rounds.{IsBack, RoundIsAsked}
use Rattle.tree_graphs.specs.declared.closure.Bound.{Bound}
use Rattle.tree_graphs.specs.declared.cycles.Cycle.{Cycle}
use Rattle.tree_graphs.specs.declared.edges.Edge.{Edge}
use Rattle.tree_graphs.specs.declared.graph.Graph.{Graph}
use Rattle.plain_data.proofs.Lists.{All-slice_get}
use Rattle.tree_sums.specs.Parts.{IsWithin}
use Rattle.tree_sums.proofs.Bound.{sum_within}
use Rattle.tree_sums.proofs.Within.{IsWithin-weaker}

-- an edge from 0 to a variable, a path and an edge back
pub round_asked : (g : Graph) (back out : Edge) (bound : Bound) (number back_number : ℕ)
    → IsBack g.writes g.edges.now back back_number → slice_get g.edges.now number ≡ Some out
    → out.from ≡ depth_of_write g.writes → bound_at g.bounds.now out.to back.from ≡ Some bound
    → RoundIsAsked g.edges.now g.writes.vars (depth_of_write g.writes) out number bound back back_number
round_asked g back out bound number back_number h out_is first is = record {
  out_is = out_is;
  back_is = h.is;
  out_edge = All-slice_get (IsEdge g.writes.vars (depth_of_write g.writes)) g.edges.now number out g.graph.graph.each
      out_is;
  back_edge = All-slice_get (IsEdge g.writes.vars (depth_of_write g.writes)) g.edges.now back_number back
      g.graph.graph.each h.is;
  path = subst (λ o. IfSome o (IsBound g.edges.now 64 out.to back.from)) is (g.closed.sound out.to back.from);
  first = first;
  last = h.last;
}

-- the numbers of a round are small
pub round_even : (edges : List Edge) (vars depth : ℕ) (out back : Edge) (bound : Bound) (number back_number : ℕ)
    → RoundIsAsked edges vars depth out number bound back back_number
    → length out.weight.coefs ≡ length back.weight.coefs
round_even edges vars depth out back bound number back_number a = a.out_edge.over ∙ sym a.back_edge.over

pub round_small : (vars depth : ℕ) (g : Edge) → IsEdge vars depth g → IsWithin (2 ^ 60) g.weight
round_small vars depth g e = IsWithin-weaker (2 ^ 33) (2 ^ 60) g.weight (omega arith) e.within

pub round_sum_small : (edges : List Edge) (vars depth : ℕ) (out back : Edge) (bound : Bound) (number back_number : ℕ)
    → RoundIsAsked edges vars depth out number bound back back_number
    → IsWithin (2 ^ 60) (form_sum out.weight back.weight)
round_sum_small edges vars depth out back bound number back_number a =
    IsWithin-weaker (2 ^ 33 + 2 ^ 33) (2 ^ 60) (form_sum out.weight back.weight) (omega arith)
    (sum_within (2 ^ 33) (2 ^ 33) out.weight back.weight a.out_edge.within a.back_edge.within)

pub round_near : (edges : List Edge) (vars depth : ℕ) (out back : Edge) (bound : Bound) (number back_number : ℕ)
    → RoundIsAsked edges vars depth out number bound back back_number
    → unsigned_abs bound.value ≤ 2 ^ 60
round_near edges vars depth out back bound number back_number a = omega (arith, a.path.near)

-- lists of cycles
pub cycles_push : (vars : ℕ) (edges : List Edge) (old new : List Cycle) (cycle : Cycle) → new ≡ old ++ cycle ∷ []
    → All (IsCycle vars edges) old → IsCycle vars edges cycle → All (IsCycle vars edges) new
cycles_push vars edges old new cycle is all one =
    subst (All (IsCycle vars edges)) (sym is)
    (All-append (IsCycle vars edges) old (cycle ∷ []) all (All-cons (IsCycle vars edges) cycle [] one (All-nil _)))

pub cycles_set : (vars : ℕ) (edges : List Edge) (old new : List Cycle) (place : ℕ) (cycle : Cycle) → new
    ≡ slice_set old place cycle → All (IsCycle vars edges) old → IsCycle vars edges cycle
    → All (IsCycle vars edges) new
cycles_set vars edges old new place cycle is all one =
    subst (All (IsCycle vars edges)) (sym is) (All-set (IsCycle vars edges) old place cycle one all)
