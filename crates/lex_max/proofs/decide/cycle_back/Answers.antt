use Rattle.std.proofs.Common.{◌≡◌, arith}
use Rattle.std.proofs.lemmas.Option.{slice_get_within}
use Rattle.tree_graphs.specs.Asked.{depth_of_write}
use Rattle.lex_max.proofs.ReturnEdges.{back_cycle, back_even, back_first, back_form, back_second, form_chosen, inner_from}
use Rattle.lex_max.proofs.ReturnEdges.{item_chosen, self_cycle, self_form}
use Rattle.lex_max.proofs.Ready.{ready_of}
use Rattle.lex_max.proofs.decide.cycle_back.Goals as goal

pub overflow_cast-number : goal.overflow_cast-number
overflow_cast-number c = omega (
  arith,
  slice_get_within c.args.graph.now.edges.now c.args.number c.args.edge.now
      c.requires.edge,
  c.args.graph.now.graph.graph.few,
)

pub overflow_cast-number-2 : goal.overflow_cast-number-2
overflow_cast-number-2 c = omega (
  arith,
  slice_get_within c.args.graph.now.edges.now c.args.number c.args.edge.now
      c.requires.edge,
  c.args.graph.now.graph.graph.few,
)

pub returns-then-edge-depth-clause-cycle : goal.returns-then-edge-depth-clause-cycle
returns-then-edge-depth-clause-cycle c =
    let w = c.args.graph.now.writes in
    let r = c.requires in
    let g = c.args.edge.now in
    let first : g.from ≡ depth_of_write w = omega (arith, c.depth.ensures) in
    self_cycle w c.args.graph.now.edges.now c.args.graph.now.bounds.now (ready_of c.args.graph.now) r.chosen.0
    c.args.choices.now r.chosen.1
    g c.args.number (record { form = c.copy-form.result; terms = c.in_ok-terms.terms }) r.edge first r.back
    c.copy-form.ensures c.in_ok-terms.ensures

pub returns-then-edge-depth-clause-form : goal.returns-then-edge-depth-clause-form
returns-then-edge-depth-clause-form c =
    let w = c.args.graph.now.writes in
    let r = c.requires in
    let g = c.args.edge.now in
    let first : g.from ≡ depth_of_write w = omega (arith, c.depth.ensures) in
    self_form w c.args.graph.now.edges.now c.args.graph.now.bounds.now (ready_of c.args.graph.now) r.chosen.0
    c.args.choices.now r.chosen.1
    g c.copy-form.result first r.back c.copy-form.ensures

pub bounds-choices-edge : goal.bounds-choices-edge
bounds-choices-edge c =
    let w = c.args.graph.now.writes in
    let r = c.requires in
    let inside = inner_from w c.args.graph.now.edges.now c.args.graph.now.bounds.now (ready_of c.args.graph.now)
    r.chosen.0
    c.args.choices.now r.chosen.1 c.args.number c.args.edge.now r.edge (λ e. omega (arith, e, c.depth.ensures)) in
    omega (arith, inside, r.chosen.1.all)

pub path_to-requires : goal.path_to-requires
path_to-requires c =
    let w = c.args.graph.now.writes in
    let edges = c.args.graph.now.edges.now in
    let bounds = c.args.graph.now.bounds.now in
    let choices = c.args.choices.now in
    let r = c.requires in
    let g = c.args.edge.now in
    let item = c.index-choices-edge.result in
    let inside = inner_from w edges bounds (ready_of c.args.graph.now) r.chosen.0 choices r.chosen.1 c.args.number g
    r.edge
    (λ e. omega (arith, e, c.depth.ensures)) in
    form_chosen w edges bounds (ready_of c.args.graph.now) r.chosen.0 choices r.chosen.1 g.from item
    (item_chosen w edges bounds (ready_of c.args.graph.now) r.chosen.0 choices r.chosen.1 g.from item inside
    c.index-choices-edge.is)

pub sum-value-requires-clause-over : goal.sum-value-requires-clause-over
sum-value-requires-clause-over c =
    let w = c.args.graph.now.writes in
    let edges = c.args.graph.now.edges.now in
    let bounds = c.args.graph.now.bounds.now in
    let choices = c.args.choices.now in
    let r = c.requires in
    let g = c.args.edge.now in
    let item = c.index-choices-edge.result in
    let inside = inner_from w edges bounds (ready_of c.args.graph.now) r.chosen.0 choices r.chosen.1 c.args.number g
    r.edge
    (λ e. omega (arith, e, c.depth.ensures)) in
    back_even w edges bounds (ready_of c.args.graph.now) r.chosen.0 choices r.chosen.1 g c.args.number item r.edge
    r.back
    (item_chosen w edges bounds (ready_of c.args.graph.now) r.chosen.0 choices r.chosen.1 g.from item inside
    c.index-choices-edge.is)

pub sum-value-requires-clause-first : goal.sum-value-requires-clause-first
sum-value-requires-clause-first c =
    let w = c.args.graph.now.writes in
    let edges = c.args.graph.now.edges.now in
    let bounds = c.args.graph.now.bounds.now in
    let choices = c.args.choices.now in
    let r = c.requires in
    let g = c.args.edge.now in
    let item = c.index-choices-edge.result in
    let inside = inner_from w edges bounds (ready_of c.args.graph.now) r.chosen.0 choices r.chosen.1 c.args.number g
    r.edge
    (λ e. omega (arith, e, c.depth.ensures)) in
    back_first w edges bounds (ready_of c.args.graph.now) r.chosen.0 choices r.chosen.1 g c.args.number item r.edge
    r.back
    (item_chosen w edges bounds (ready_of c.args.graph.now) r.chosen.0 choices r.chosen.1 g.from item inside
    c.index-choices-edge.is)

pub sum-value-requires-clause-second : goal.sum-value-requires-clause-second
sum-value-requires-clause-second c =
    let w = c.args.graph.now.writes in
    let edges = c.args.graph.now.edges.now in
    let bounds = c.args.graph.now.bounds.now in
    let choices = c.args.choices.now in
    let r = c.requires in
    let g = c.args.edge.now in
    let item = c.index-choices-edge.result in
    let inside = inner_from w edges bounds (ready_of c.args.graph.now) r.chosen.0 choices r.chosen.1 c.args.number g
    r.edge
    (λ e. omega (arith, e, c.depth.ensures)) in
    back_second w edges bounds (ready_of c.args.graph.now) r.chosen.0 choices r.chosen.1 g c.args.number item r.edge
    r.back
    (item_chosen w edges bounds (ready_of c.args.graph.now) r.chosen.0 choices r.chosen.1 g.from item inside
    c.index-choices-edge.is)

pub returns-clause-cycle : goal.returns-clause-cycle
returns-clause-cycle c =
    let w = c.args.graph.now.writes in
    let edges = c.args.graph.now.edges.now in
    let bounds = c.args.graph.now.bounds.now in
    let choices = c.args.choices.now in
    let r = c.requires in
    let g = c.args.edge.now in
    let item = c.index-choices-edge.result in
    let path = c.in_ok-rows.rows in
    let inside = inner_from w edges bounds (ready_of c.args.graph.now) r.chosen.0 choices r.chosen.1 c.args.number g
    r.edge
    (λ e. omega (arith, e, c.depth.ensures)) in
    back_cycle w edges bounds (ready_of c.args.graph.now) r.chosen.0 choices r.chosen.1 g c.args.number item r.edge
    r.back
    (item_chosen w edges bounds (ready_of c.args.graph.now) r.chosen.0 choices r.chosen.1 g.from item inside
    c.index-choices-edge.is)
    path
    (record { form = c.sum-value.result; terms = c.push.new.self }) c.in_ok-rows.ensures.path
    c.in_ok-rows.ensures.light c.sum-value.ensures
    c.in_ok-push.ensures.ok

pub returns-clause-form : goal.returns-clause-form
returns-clause-form c =
    let w = c.args.graph.now.writes in
    let edges = c.args.graph.now.edges.now in
    let bounds = c.args.graph.now.bounds.now in
    let choices = c.args.choices.now in
    let r = c.requires in
    let g = c.args.edge.now in
    let item = c.index-choices-edge.result in
    let inside = inner_from w edges bounds (ready_of c.args.graph.now) r.chosen.0 choices r.chosen.1 c.args.number g
    r.edge
    (λ e. omega (arith, e, c.depth.ensures)) in
    back_form w edges bounds (ready_of c.args.graph.now) r.chosen.0 choices r.chosen.1 g c.args.number item r.edge
    r.back
    (item_chosen w edges bounds (ready_of c.args.graph.now) r.chosen.0 choices r.chosen.1 g.from item inside
    c.index-choices-edge.is)
    c.sum-value.result c.sum-value.ensures
