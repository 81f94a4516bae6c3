use Rattle.std.proofs.Common.{ap, ◌∙◌}
use Rattle.std.proofs.lemmas.Result.{IfOk-weaker}
use Rattle.tree_join.proofs.whole.copy_of.Goals as goal

pub returns : goal.returns
returns c =
    IfOk-weaker c.system_of.result _ _
    (λ copy is. is ∙ ap (λ rows. record { vars = c.args.context.now.vars; rows = rows }) c.as_slice.ensures)
    c.system_of.ensures
