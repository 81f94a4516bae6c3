use Rattle.std.proofs.Common.{◌≡◌, ◌∷◌, rules, arith}
use Rattle.std.proofs.lemmas.Result.{on_ok_weaker}
use Rattle.tree_graphs.proofs.EdgeRows.{adds_domain, exact_domain}
use Rattle.tree_graphs.proofs.ProblemBounds.{writes_fit}
use Rattle.tree_graphs.proofs.edges.+push_domain.Goals as goal

pub domain_edge-requires : goal.domain_edge-requires
domain_edge-requires t c = omega (arith, (writes_fit c.args.w.now).few_vars)

pub returns-clause-rows : goal.returns-clause-rows
returns-clause-rows t c =
    let first : c.args.rows.now ≡ c.in-Some.row.now ∷ c.in-Some.rows.now = search rules in
    on_ok_weaker c.push_domain.result
    (λ rest. adds_domain c.args.w.now c.in-Some.row.now c.in-Some.rows.now c.args.rows.now
    c.domain_edge.result c.args.edges.now c.push.new.self c.push_domain.new.edges first
    c.in_ok-push.ensures.ok c.domain_edge.ensures c.requires.rows c.requires.fit rest) c.push_domain.ensures.rows

pub returns-clause-exact : goal.returns-clause-exact
returns-clause-exact t c =
    let first : c.args.rows.now ≡ c.in-Some.row.now ∷ c.in-Some.rows.now = search rules in
    on_ok_weaker c.push_domain.result
    (λ rest. exact_domain c.args.w.now.vars c.in-Some.row.now c.in-Some.rows.now
    c.args.rows.now c.domain_edge.result c.args.edges.now c.push.new.self c.push_domain.new.edges
    first c.in_ok-push.ensures.ok c.domain_edge.ensures rest) c.push_domain.ensures.exact
