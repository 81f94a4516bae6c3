use Rattle.std.proofs.Common.{◌++◌, ◌∷◌, [], map, sym, ap, ◌∙◌, arith}
use Rattle.std.specs.List.{range_with_len}
use Rattle.std.proofs.lemmas.List.FromFn.{map-range_with_len_more}
use Rattle.tree_graphs.specs.Asked.{depth_of_write}
use Rattle.lex_max.specs.Choices.{uppers_of}
use Rattle.lex_max.proofs.decide.all_upper_forms.Goals as goal

pub loop-variable-preserved : goal.loop-variable-preserved
loop-variable-preserved c =
    let f = uppers_of (depth_of_write c.args.graph.now.writes) c.args.graph.now.bounds.now c.args.graph.now.edges.now in
    let v = c.loop-variable.variable in
    c.in_ok-push.ensures.ok ∙ ap (λ fs. fs ++ c.in_ok-upper_forms.field-0 ∷ []) c.loop-variable.invariant
    ∙ ap (λ fs. map f (range_with_len 0 v) ++ fs ∷ []) c.in_ok-upper_forms.ensures
    ∙ sym (map-range_with_len_more f 0 v v (omega arith))
