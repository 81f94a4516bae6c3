use Rattle.std.proofs.Common.{sym, subst}
use Rattle.std.proofs.lemmas.Result.{IfOk-weaker}
use Rattle.tree_graphs.specs.Joint.{IsTreeFor}
use Rattle.tree_trim.proofs.Trimming.{sides_joined}
use Rattle.tree_trim.proofs.branch.trim_test.Goals as goal

pub returns-clause-joined : goal.returns-clause-joined
returns-clause-joined c =
    IfOk-weaker c.branch_or_test.result _ _
    (λ tree is pairs context sides. subst (IsTreeFor pairs context) (sym is)
    (sides_joined pairs context c.args.row c.args.form.now c.args.yes c.args.no sides)) c.branch_or_test.ensures
