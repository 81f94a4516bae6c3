use Rattle.std.proofs.Common.{◌≡◌, ◌∷◌, ◌∙◌, length, ap, rules, arith}
use Rattle.std.proofs.lemmas.Result.{on_ok_weaker}
use Rattle.tree_graphs.proofs.PathSums.{dropped_at}
use Rattle.tree_graphs.proofs.cycles.+push_cycles.Goals as goal

pub push_back-requires : goal.push_back-requires
push_back-requires t c =
    let first : c.args.edges.now ≡ c.in-Some.edge.now ∷ c.in-Some.edges.now = search rules in
    (dropped_at c.args.graph.now.edges.now c.args.number c.in-Some.edge.now c.in-Some.edges.now
    (c.requires.rest ∙ first)).0

pub push_cycles-requires : goal.push_cycles-requires
push_cycles-requires t c =
    let first : c.args.edges.now ≡ c.in-Some.edge.now ∷ c.in-Some.edges.now = search rules in
    let count = ap length first in
    let rest = (dropped_at c.args.graph.now.edges.now c.args.number c.in-Some.edge.now c.in-Some.edges.now
    (c.requires.rest ∙ first)).1 in
    let few = c.requires.count in
    (omega (arith, count), (rest, omega (arith, few, count)))

pub returns-clause-each : goal.returns-clause-each
returns-clause-each t c =
    on_ok_weaker c.push_cycles.result
    (λ rest each. rest (c.in_ok-push_back.ensures.each each)) c.push_cycles.ensures.each
