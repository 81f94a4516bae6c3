use Rattle.std.proofs.Common.{◌<◌, ◌++◌, ◌∷◌, [], length, map, take, refl, sym, ap, ◌∙◌, arith}
use Rattle.std.proofs.lemmas.List.{map_more}
use Rattle.std.proofs.lemmas.Option.{slice_get_read}
use Rattle.tree_graphs.specs.Asked.{depth_of_write}
use Rattle.lex_max.specs.Choices.{upper_of}
use Rattle.tree_graphs.specs.Edges.{IsEdge}
use Rattle.lex_max.proofs.decide.upper_forms.Goals as goal
use Rattle.plain_data.proofs.Lists.{All-slice_get}

pub upper_form-requires : goal.upper_form-requires
upper_form-requires c =
    let g = c.args.graph.now in
    let edges = g.edges.now in
    All-slice_get (IsEdge g.writes.vars (depth_of_write g.writes)) edges c.loop-edge.edge-index c.edge-item.result
    g.graph.graph.each
    (slice_get_read edges (length edges) c.loop-edge.edge-index c.edge-item.result refl (omega arith) c.edge-item.is)

pub loop-edge-preserved : goal.loop-edge-preserved
loop-edge-preserved c =
    let edges = c.args.graph.now.edges.now in
    let i = c.loop-edge.edge-index in
    let item = c.edge-item.result in
    let form = upper_of (depth_of_write c.args.graph.now.writes) c.args.graph.now.bounds.now c.args.variable in
    let inside : i < length edges = omega arith in
    c.in_ok-push.ensures.ok ∙ ap (λ forms. forms ++ c.upper_form.result ∷ []) c.loop-edge.invariant
    ∙ ap (λ f. map form (take i edges) ++ f ∷ []) c.upper_form.ensures
    ∙ sym (map_more form edges i item inside ∙ ap (λ g. map form (take i edges) ++ form g ∷ []) (sym c.edge-item.is))
