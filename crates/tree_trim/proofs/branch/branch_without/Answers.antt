use Rattle.std.proofs.Common.{sym, ap, ◌∙◌, subst}
use Rattle.tree_graphs.specs.Joint.{IsTreeFor}
use Rattle.tree_trim.specs.Trees.{tree_without}
use Rattle.tree_trim.proofs.Trimming.{unnamed_joined}
use Rattle.tree_trim.proofs.branch.branch_without.Goals as goal

pub returns-clause-joined : goal.returns-clause-joined
returns-clause-joined c = λ pairs context form h.
    subst (IsTreeFor pairs context)
    (sym (c.into_inner.ensures ∙ c.in_ok-other.ensures ∙ ap (tree_without c.args.row) c.in_ok-tree.ensures))
    (unnamed_joined pairs context c.args.row form c.args.tree h)
