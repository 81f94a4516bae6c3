use Rattle.std.proofs.Common.{[], sym, subst, arith}
use Rattle.std.proofs.lemmas.Result.{IfOk-weaker}
use Rattle.tree_graphs.specs.Cycles.{IsContradiction}
use Rattle.tree_graphs.specs.Asked.{depth_of_write}
use Rattle.tree_graphs.specs.Closed.{IsClosure}
use Rattle.tree_graphs.specs.Edges.{IsGraph}
use Rattle.tree_graphs.specs.Rounds.{IsGraphOf}
use Rattle.tree_graphs.proofs.ProblemBounds.{writes_fit}
use Rattle.tree_graphs.proofs.ZeroCycles.{negative_contradicts}
use Rattle.lex_max.proofs.ZeroLeaves.{context_less}
use Rattle.lex_max.proofs.greatest.tree_of.Goals as goal

pub closure_of-requires-clause-edges : goal.closure_of-requires-clause-edges
closure_of-requires-clause-edges c =
    let w = c.args.w.now in (
      w.vars,
      subst (λ n. IsGraph w.vars n c.as_slice-edges.result.now) (sym c.depth-nodes.ensures)
          (subst (IsGraph w.vars (depth_of_write w))
          (sym c.as_slice-edges.ensures) c.in_ok-found.ensures.graph),
    )

pub closure_of-requires-clause-few : goal.closure_of-requires-clause-few
closure_of-requires-clause-few c =
    omega (arith, c.depth-nodes.ensures, (writes_fit c.args.w.now).few_loops)

pub zero_leaf-requires-clause-context : goal.zero_leaf-requires-clause-context
zero_leaf-requires-clause-context c =
    context_less c.args.w.now c.args.context.now 0 3584 (omega arith) c.requires

pub zero_leaf-requires-clause-refuted : goal.zero_leaf-requires-clause-refuted
zero_leaf-requires-clause-refuted c =
    let w = c.args.w.now in
    let edges = c.as_slice-edges.result.now in
    let context = c.args.context.now in
    let graph : IsGraphOf w c.in_ok-found.found = record {
      edges_are =
          c.in_ok-found.ensures.rows;
      graph = c.in_ok-found.ensures.graph;
      starts = c.in_ok-found.ensures.domain;
    } in
    let negative = subst (IsClosure edges c.depth-nodes.result) c.in-Negative.is c.in_ok-closure.ensures in (
      edges,
      subst (IsGraphOf w) (sym c.as_slice-edges.ensures) graph,
      subst (IsContradiction context.vars context.rows edges []) (sym c.as_slice-terms.ensures)
          (negative_contradicts context edges c.in-Negative.rows negative),
    )

pub returns-in-Negative : goal.returns-in-Negative
returns-in-Negative c = IfOk-weaker c.zero_leaf.result _ _ (λ tree h. h 3584) c.zero_leaf.ensures

pub invariant_of-graph-clause-graph : goal.invariant_of-graph-clause-graph
invariant_of-graph-clause-graph c =
    let w = c.args.w.now in
    let graph : IsGraphOf w c.in_ok-found.found = record {
      edges_are = c.in_ok-found.ensures.rows;
      graph = c.in_ok-found.ensures.graph;
      starts = c.in_ok-found.ensures.domain;
    } in
    subst (IsGraphOf w) (sym c.as_slice-edges.ensures) graph

pub invariant_of-graph-clause-closed : goal.invariant_of-graph-clause-closed
invariant_of-graph-clause-closed c =
    let edges = c.as_slice-edges.result.now in
    subst (IsClosure edges (depth_of_write c.args.w.now)) c.in-Closed.is
    (subst (λ n. IsClosure edges n c.in_ok-closure.closure) c.depth-nodes.ensures c.in_ok-closure.ensures)
