use Rattle.std.proofs.Common.{◌≡◌, ◌<◌, ◌^◌, sym, ap, ◌∙◌, arith}
use Rattle.std.specs.Option.{option_copied}
use Rattle.tree_graphs.specs.Asked.{depth_of_write}
use Rattle.tree_graphs.proofs.FloydWarshall.{bound_small}
use Rattle.lex_max.proofs.ChosenPaths.{upper_none, upper_out, upper_past, upper_some}
use Rattle.lex_max.proofs.decide.upper_form.Goals as goal
use Rattle.tree_sums.proofs.Within.{IsWithin-weaker}

pub returns-then-edge-depth : goal.returns-then-edge-depth
returns-then-edge-depth c =
    let w = c.args.graph.now.writes in
    let g = c.args.edge.now in
    sym (upper_out (depth_of_write w) c.args.graph.now.bounds.now c.args.variable g (λ e. omega
    (arith, e, c.depth.ensures)))

pub returns-then-edge-depth-2 : goal.returns-then-edge-depth-2
returns-then-edge-depth-2 c =
    let w = c.args.graph.now.writes in
    let g = c.args.edge.now in
    sym (upper_past (depth_of_write w) c.args.graph.now.bounds.now c.args.variable g (omega (arith, c.depth-2.ensures)))

pub form_beyond-requires-clause-form : goal.form_beyond-requires-clause-form
form_beyond-requires-clause-form c = IsWithin-weaker (2 ^ 33) (2 ^ 60) c.args.edge.now.weight
    (omega arith) c.requires.within

pub form_beyond-requires-clause-bound : goal.form_beyond-requires-clause-bound
form_beyond-requires-clause-bound c =
    bound_small c.args.graph.now.edges.now 64 c.args.graph.now.bounds.now c.args.edge.now.to c.args.variable
    c.in-Some.bound.now
    c.args.graph.now.closed.sound (omega arith) (sym c.at.ensures ∙ ap option_copied c.in-Some.is)

pub returns-in-Some : goal.returns-in-Some
returns-in-Some c =
    let w = c.args.graph.now.writes in
    let g = c.args.edge.now in
    let first : g.from ≡ depth_of_write w = omega (arith, c.depth.ensures) in
    let inside : g.to < depth_of_write w = omega (arith, c.depth-2.ensures) in
    upper_some (depth_of_write w) c.args.graph.now.bounds.now c.args.variable g c.in-Some.bound.now c.form_beyond.result
    first
    inside (sym c.at.ensures ∙ ap option_copied c.in-Some.is) c.form_beyond.ensures

pub returns-in-None : goal.returns-in-None
returns-in-None c = sym (upper_none (depth_of_write c.args.graph.now.writes) c.args.graph.now.bounds.now c.args.variable
    c.args.edge.now
    (sym c.at.ensures ∙ ap option_copied c.in-None.is))
