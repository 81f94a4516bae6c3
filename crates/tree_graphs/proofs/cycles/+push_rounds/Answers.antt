use Rattle.std.proofs.Common.{◌≡◌, ◌∷◌, ◌∙◌, length, ap, rules, arith}
use Rattle.std.proofs.lemmas.Result.{on_ok_weaker}
use Rattle.tree_graphs.proofs.PathSums.{dropped_at}
use Rattle.tree_graphs.proofs.cycles.+push_rounds.Goals as goal

pub push_round-requires-clause-out : goal.push_round-requires-clause-out
push_round-requires-clause-out t c =
    let first : c.args.outs.now ≡ c.in-Some.out.now ∷ c.in-Some.outs.now = search rules in
    (dropped_at c.args.graph.now.edges.now c.args.number c.in-Some.out.now c.in-Some.outs.now
    (c.requires.outs ∙ first)).0

pub push_rounds-requires : goal.push_rounds-requires
push_rounds-requires t c =
    let first : c.args.outs.now ≡ c.in-Some.out.now ∷ c.in-Some.outs.now = search rules in
    let count = ap length first in
    let few = c.requires.count in
    let rest = (dropped_at c.args.graph.now.edges.now c.args.number c.in-Some.out.now c.in-Some.outs.now
    (c.requires.outs ∙ first)).1 in
    (omega (arith, count), (c.requires.back, (rest, omega (arith, few, count))))

pub returns-clause-each : goal.returns-clause-each
returns-clause-each t c =
    on_ok_weaker c.push_rounds.result
    (λ rest each. rest (c.in_ok-push_round.ensures.each each)) c.push_rounds.ensures.each
