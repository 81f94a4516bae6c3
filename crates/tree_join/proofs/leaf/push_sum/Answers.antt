use Rattle.std.proofs.Common.{◌∷◌, ◌++◌, [], ap, ◌∙◌}
use Rattle.std.proofs.lemmas.Result.{on_ok_weaker}
use Rattle.tree_graphs.specs.Paths.{term_of}
use Rattle.tree_join.proofs.leaf.push_sum.Goals as goal

pub returns : goal.returns
returns c =
    on_ok_weaker c.push-2.result
    (λ pushed. pushed
    ∙ ap (λ ts. c.args.sums.now ++ ts ∷ [])
    (c.in_ok-append.ensures ∙ ap (λ ts. ts ++ c.args.rest.now)
    (c.in_ok-push.ensures.ok ∙ ap (λ ts. ts ++ term_of c.args.row ∷ []) c.new-terms.ensures))) c.push-2.ensures.ok
