use Rattle.std.proofs.Common.{◌++◌, ◌∷◌, [], sym, ap, ◌∙◌, arith}
use Rattle.std.specs.Option.{option_copied}
use Rattle.tree_graphs.specs.Paths.{term_of}
use Rattle.lex_max.proofs.ChosenPaths.{is_led, led_found, led_terms, led_within}
use Rattle.lex_max.proofs.Ready.{ready_of}
use Rattle.lex_max.proofs.decide.path_to.Goals as goal

pub end_of-to-requires : goal.end_of-to-requires
end_of-to-requires c =
    let w = c.args.graph.now.writes in
    let edges = c.args.graph.now.edges.now in
    let bounds = c.args.graph.now.bounds.now in
    let choice = c.args.choice.now in
    (led_within w edges bounds (ready_of c.args.graph.now) c.args.variable choice.edge choice.form
    (is_led w edges bounds (ready_of c.args.graph.now) c.args.variable choice.edge choice.form c.requires)).0

pub overflow_cast-choice : goal.overflow_cast-choice
overflow_cast-choice c =
    let w = c.args.graph.now.writes in
    let edges = c.args.graph.now.edges.now in
    let bounds = c.args.graph.now.bounds.now in
    let choice = c.args.choice.now in
    let few = (led_within w edges bounds (ready_of c.args.graph.now) c.args.variable choice.edge choice.form
    (is_led w edges bounds (ready_of c.args.graph.now) c.args.variable choice.edge choice.form c.requires)).1 in
    omega (arith, few)

pub unreachable-requires : goal.unreachable-requires
unreachable-requires c =
    let w = c.args.graph.now.writes in
    let edges = c.args.graph.now.edges.now in
    let bounds = c.args.graph.now.bounds.now in
    let choice = c.args.choice.now in
    let led = is_led w edges bounds (ready_of c.args.graph.now) c.args.variable choice.edge choice.form c.requires in
    led_found w edges bounds (ready_of c.args.graph.now) c.args.variable choice.edge c.end_of-to.result choice.form led
    c.end_of-to.ensures (sym c.at.ensures ∙ ap option_copied c.in-None.is)

pub returns-clause-path : goal.returns-clause-path
returns-clause-path c =
    let w = c.args.graph.now.writes in
    let edges = c.args.graph.now.edges.now in
    let bounds = c.args.graph.now.bounds.now in
    let choice = c.args.choice.now in
    let led = is_led w edges bounds (ready_of c.args.graph.now) c.args.variable choice.edge choice.form c.requires in
    (led_terms w edges bounds (ready_of c.args.graph.now) c.args.variable choice.edge c.end_of-to.result choice.form led
    c.end_of-to.ensures c.in-Some.bound.now c.append.new.out (sym c.at.ensures ∙ ap option_copied c.in-Some.is)
    (c.in_ok-append-in-Some.ensures ∙ ap (λ ts. ts ++ c.as_slice.result.now) c.in_ok-terms.ensures
    ∙ ap (λ ts. (term_of choice.edge ∷ []) ++ ts) c.as_slice.ensures)).0

pub returns-clause-light : goal.returns-clause-light
returns-clause-light c =
    let w = c.args.graph.now.writes in
    let edges = c.args.graph.now.edges.now in
    let bounds = c.args.graph.now.bounds.now in
    let choice = c.args.choice.now in
    let led = is_led w edges bounds (ready_of c.args.graph.now) c.args.variable choice.edge choice.form c.requires in
    (led_terms w edges bounds (ready_of c.args.graph.now) c.args.variable choice.edge c.end_of-to.result choice.form led
    c.end_of-to.ensures c.in-Some.bound.now c.append.new.out (sym c.at.ensures ∙ ap option_copied c.in-Some.is)
    (c.in_ok-append-in-Some.ensures ∙ ap (λ ts. ts ++ c.as_slice.result.now) c.in_ok-terms.ensures
    ∙ ap (λ ts. (term_of choice.edge ∷ []) ++ ts) c.as_slice.ensures)).1
