use Rattle.std.proofs.Common.{◌≡◌, ◌+◌, ◌++◌, [], length, map, ap, ◌∙◌, subst, arith}
use Rattle.source_tree.specs.Places.{domain_rows}
use Rattle.tree_graphs.specs.Edges.{domain_edge_of, AddsEdges}
use Rattle.tree_graphs.proofs.EdgeRows.{starts_with}
use Rattle.tree_graphs.proofs.ProblemBounds.{writes_fit}
use Rattle.tree_graphs.proofs.OrderEdges.{are_graph, edges_are}
use Rattle.tree_graphs.proofs.edges.edges_of.Goals as goal

pub push_domain-requires-clause-fit : goal.push_domain-requires-clause-fit
push_domain-requires-clause-fit c = (writes_fit c.args.w.now).rows

pub push_domain-requires-clause-rows : goal.push_domain-requires-clause-rows
push_domain-requires-clause-rows c = (writes_fit c.args.w.now).differences

pub push_cells-requires : goal.push_cells-requires
push_cells-requires c = (writes_fit c.args.w.now).cells

with_domain : (c : goal.In_ok-push_order) → AddsEdges c.args.w.now
    (λ place. domain_rows c.args.w.now.rows.now place) [] c.push_domain.new.edges
with_domain c =
    subst (λ old. AddsEdges c.args.w.now (λ place. domain_rows c.args.w.now.rows.now place) old
    c.push_domain.new.edges) c.new-edges.ensures c.in_ok-push_domain.ensures.rows

pub returns-clause-rows : goal.returns-clause-rows
returns-clause-rows c =
    edges_are c.args.w.now c.push_domain.new.edges c.push_cells.new.edges c.push_order.new.edges c.args.w.now.loops
    (with_domain c) c.in_ok-push_cells.ensures.rows c.in_ok-push_order.ensures.rows

pub returns-clause-graph : goal.returns-clause-graph
returns-clause-graph c =
    let n1 : length c.push_domain.new.edges ≡ 0 + length c.args.w.now.rows.now
    = omega (arith, c.in_ok-push_domain.ensures.count, ap length c.new-edges.ensures) in
    are_graph c.args.w.now (writes_fit c.args.w.now) c.push_domain.new.edges c.push_cells.new.edges
    c.push_order.new.edges (with_domain c) n1 c.in_ok-push_cells.ensures.rows c.in_ok-push_cells.ensures.count
    c.in_ok-push_order.ensures.rows c.in_ok-push_order.ensures.count

pub returns-clause-domain : goal.returns-clause-domain
returns-clause-domain c =
    let vars = c.args.w.now.vars in
    starts_with vars c.args.w.now.rows.now c.push_domain.new.edges c.push_cells.new.edges
    c.push_order.new.edges
    (c.in_ok-push_domain.ensures.exact
    ∙ ap (λ old. old ++ map (domain_edge_of vars) c.args.w.now.rows.now) c.new-edges.ensures)
    c.in_ok-push_cells.ensures.kept c.in_ok-push_order.ensures.kept
