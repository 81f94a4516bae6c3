use Rattle.std.proofs.Common.{◌∷◌, ◌++◌, [], ap, ◌∙◌}
use Rattle.tree_join.proofs.path.side_of.Goals as goal

pub returns-clause-rows : goal.returns-clause-rows
returns-clause-rows c = c.in_ok-push.ensures.ok ∙ ap (λ xs. xs ++ c.in_ok-once.field-0 ∷ []) c.in_ok-rows.ensures
    ∙ ap (λ ts. c.args.rows.now ++ ts ∷ []) c.in_ok-once.ensures
