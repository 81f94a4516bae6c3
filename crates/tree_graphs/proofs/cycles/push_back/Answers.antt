use Rattle.std.proofs.Common.{◌≡◌, refl, arith}
use Rattle.std.proofs.lemmas.Result.{on_ok_weaker}
use Rattle.tree_graphs.specs.Asked.{depth_of_write}
use Rattle.tree_graphs.specs.Edges.{IsEdge}
use Rattle.tree_graphs.proofs.ZeroCycles.{self_is_cycle}
use Rattle.tree_graphs.proofs.cycles.push_back.Goals as goal
use Rattle.plain_data.proofs.Lists.{All-slice_get}

pub returns-then-edge-depth-2-clause-each : goal.returns-then-edge-depth-2-clause-each
returns-then-edge-depth-2-clause-each c =
    let w = c.args.graph.now.writes in
    let edges = c.args.graph.now.edges.now in
    let g = c.args.edge.now in
    let first : g.from ≡ depth_of_write w = omega (arith, c.depth-2.ensures) in
    let last : g.to ≡ depth_of_write w = omega (arith, c.depth.ensures) in
    let edge = All-slice_get (IsEdge w.vars (depth_of_write w)) edges c.args.number g c.args.graph.now.graph.graph.each
    c.requires in
    on_ok_weaker c.push_least.result
    (λ h all.
    h w.vars edges all
    (self_is_cycle edges w.vars (depth_of_write w) g c.args.number
    (record { form = c.copy-form.result; terms = c.in_ok-terms.terms }) c.requires edge first last
    c.copy-form.ensures c.in_ok-terms.ensures))
    c.push_least.ensures.each

pub returns-then-edge-depth-2-clause-count : goal.returns-then-edge-depth-2-clause-count
returns-then-edge-depth-2-clause-count c =
    on_ok_weaker c.push_least.result (λ h. omega (arith, h)) c.push_least.ensures.count

pub push_rounds-requires-clause-back : goal.push_rounds-requires-clause-back
push_rounds-requires-clause-back c = record { is = c.requires; last = omega (arith, c.depth.ensures) }

pub push_rounds-requires-clause-outs : goal.push_rounds-requires-clause-outs
push_rounds-requires-clause-outs c = refl

pub push_rounds-requires-clause-count : goal.push_rounds-requires-clause-count
push_rounds-requires-clause-count c = omega (arith, c.args.graph.now.graph.graph.few)

pub returns-clause-each : goal.returns-clause-each
returns-clause-each c = c.push_rounds.ensures.each

pub returns-clause-count : goal.returns-clause-count
returns-clause-count c =
    on_ok_weaker c.push_rounds.result (λ h. omega (arith, h, c.args.graph.now.graph.graph.few))
    c.push_rounds.ensures.count
