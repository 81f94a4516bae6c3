use Rattle.std.proofs.Common.{◌≡◌, arith}
use Rattle.std.proofs.lemmas.Result.{IfOk-weaker}
use Rattle.tree_graphs.specs.Asked.{depth_of_write}
use Rattle.lex_max.proofs.ReturnEdges.{inner_fact, inner_found, inner_from, item_chosen, out_fact, out_found}
use Rattle.lex_max.proofs.Ready.{ready_of}
use Rattle.lex_max.proofs.decide.upper_terms.Goals as goal

pub bounds-choices-edge : goal.bounds-choices-edge
bounds-choices-edge c =
    omega (arith, c.requires.chosen.1.all, c.requires.to)

pub terms_at-requires : goal.terms_at-requires
terms_at-requires c =
    let w = c.args.graph.now.writes in
    let g = c.args.edge.now in
    let choices = c.args.choices.now in
    let edges = c.args.graph.now.edges.now in
    let bounds = c.args.graph.now.bounds.now in
    let ready = ready_of c.args.graph.now in
    let k = c.requires.chosen in
    let first : g.from ≡ depth_of_write w = omega (arith, c.depth.ensures) in
    let to = c.index-choices-edge.result in
    out_found w edges bounds ready k.0 choices k.1 c.args.number g to c.requires.edge first c.requires.to
    (item_chosen w edges bounds ready k.0 choices k.1 g.to to c.requires.to c.index-choices-edge.is)

pub returns-then-edge-depth : goal.returns-then-edge-depth
returns-then-edge-depth c =
    let w = c.args.graph.now.writes in
    let edges = c.args.graph.now.edges.now in
    let bounds = c.args.graph.now.bounds.now in
    let ready = ready_of c.args.graph.now in
    let g = c.args.edge.now in
    let choices = c.args.choices.now in
    let first : g.from ≡ depth_of_write w = omega (arith, c.depth.ensures) in
    let to = c.index-choices-edge.result in
    IfOk-weaker c.terms_at.result _ _
    (λ terms found context chosen.
    out_fact w edges bounds ready context choices chosen c.args.number g to terms c.requires.edge first c.requires.to
    (item_chosen w edges bounds ready context choices chosen g.to to c.requires.to c.index-choices-edge.is) found)
    c.terms_at.ensures

pub bounds-choices-edge-2 : goal.bounds-choices-edge-2
bounds-choices-edge-2 c =
    let edges = c.args.graph.now.edges.now in
    let bounds = c.args.graph.now.bounds.now in
    let ready = ready_of c.args.graph.now in
    let k = c.requires.chosen in
    let inside = inner_from c.args.graph.now.writes edges bounds ready k.0 c.args.choices.now k.1 c.args.number
    c.args.edge.now c.requires.edge
    (λ e. omega (arith, e, c.depth.ensures)) in
    omega (arith, k.1.all, inside)

pub terms_at-requires-2 : goal.terms_at-requires-2
terms_at-requires-2 c =
    let w = c.args.graph.now.writes in
    let g = c.args.edge.now in
    let choices = c.args.choices.now in
    let edges = c.args.graph.now.edges.now in
    let bounds = c.args.graph.now.bounds.now in
    let ready = ready_of c.args.graph.now in
    let k = c.requires.chosen in
    let to = c.index-choices-edge.result in
    let from = c.index-choices-edge-2.result in
    let inside = inner_from w edges bounds ready k.0 choices k.1 c.args.number g c.requires.edge (λ e. omega
    (arith, e, c.depth.ensures))
    in
    inner_found w edges bounds ready k.0 choices k.1 c.args.number g from to c.requires.edge inside c.requires.to
    (item_chosen w edges bounds ready k.0 choices k.1 g.from from inside c.index-choices-edge-2.is)
    (item_chosen w edges bounds ready k.0 choices k.1 g.to to c.requires.to c.index-choices-edge.is)

pub returns : goal.returns
returns c =
    let w = c.args.graph.now.writes in
    let edges = c.args.graph.now.edges.now in
    let bounds = c.args.graph.now.bounds.now in
    let ready = ready_of c.args.graph.now in
    let g = c.args.edge.now in
    let choices = c.args.choices.now in
    let to = c.index-choices-edge.result in
    let from = c.index-choices-edge-2.result in
    IfOk-weaker c.terms_at-2.result _ _
    (λ terms found context chosen.
    let inside = inner_from w edges bounds ready context choices chosen c.args.number g c.requires.edge
    (λ e. omega (arith, e, c.depth.ensures)) in
    inner_fact w edges bounds ready context choices chosen c.args.number g from to terms c.requires.edge inside
    c.requires.to
    (item_chosen w edges bounds ready context choices chosen g.from from inside c.index-choices-edge-2.is)
    (item_chosen w edges bounds ready context choices chosen g.to to c.requires.to c.index-choices-edge.is) found)
    c.terms_at-2.ensures
