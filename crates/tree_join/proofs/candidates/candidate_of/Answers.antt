use Rattle.std.proofs.Common.{◌≡◌, List, length, map, take, sym, ap, ◌∙◌, subst, arith}
use Rattle.std.specs.Prelude.{All, Contains}
use Rattle.tree_order.specs.Reads.{pair_in, pair_of, pairs_of, read_in}
use Rattle.tree_join.proofs.Pairs.{pair_is}
use Rattle.tree_graphs.specs.Asked.{depth_of_write, read_of, write_of}
use Rattle.tree_graphs.specs.Cycles.{IsCycle}
use Rattle.tree_graphs.specs.Closed.{IsClosure}
use Rattle.tree_graphs.specs.Edges.{domain_edge_of, AreEdgesOf, IsGraph}
use Rattle.tree_graphs.specs.declared.edges.Edge.{Edge}
use Rattle.tree_graphs.specs.declared.writes.Writes.{Writes}
use Rattle.tree_graphs.specs.Rounds.{IsGraphOf}
use Rattle.tree_graphs.proofs.Nodes.{simple_wider}
use Rattle.tree_join.proofs.candidates.candidate_of.Goals as goal

pub closure_of-requires-clause-few : goal.closure_of-requires-clause-few
closure_of-requires-clause-few c =
    omega (arith, c.depth.ensures, c.writes_at-writes.result.problem.few_loops)

-- the graph of the rows
graph_is : (w : Writes) (edges : List Edge) → AreEdgesOf (read_of w) (write_of w) w.level edges
    → IsGraph w.vars (depth_of_write w) edges
    → take (length w.rows.now) edges ≡ map (domain_edge_of w.vars) w.rows.now
    → IsGraphOf w edges
graph_is w edges rows graph domain = record { edges_are = rows; graph = graph; starts = domain }

pub returns-clause-candidate : goal.returns-clause-candidate
returns-clause-candidate c =
    let read = c.args.read.now in
    let problem = c.args.problem.now in
    let w = c.writes_at-writes.result in
    let is = c.writes_at-writes.ensures in
    let edges = c.in_ok-edges.edges in
    let e = c.in_ok-edges.ensures in
    let closure = c.in_ok-closure.closure in
    let answer = c.in_ok-tree.ensures in
    let pair : pair_of w ≡ pair_in read problem = ap (λ r. record { read = r; write = write_of w }) is.read
    ∙ ap (λ u. record { read = read_in read problem; write = u }) is.write in
    record {
      joined = c.requires.joined;
      pair = subst (Contains (pairs_of read)) (sym pair) (pair_is read problem c.requires.problem);
      vars = is.vars;
      checked = λ own made. answer.checked own (made.vars ∙ sym is.vars) made.rows;
      simple = simple_wider 3584 65536 c.in_ok-tree.tree (omega arith) answer.simple;
      graph = graph_is w edges e.rows e.graph e.domain;
      closure = subst (λ e. IsClosure e (depth_of_write w) closure) c.as_slice.ensures
          (subst (λ n. IsClosure c.as_slice.result.now n closure) c.depth.ensures c.in_ok-closure.ensures);
      cycles = subst (λ e. All (IsCycle w.vars e) c.in_ok-cycles.cycles) c.as_slice-2.ensures c.in_ok-cycles.ensures;
    }
