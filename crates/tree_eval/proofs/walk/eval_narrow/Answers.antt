use Rattle.std.proofs.Common.{sym, length}
use Rattle.std.specs.Prelude.{Ok}
use Rattle.affine_core.specs.declared.form.Overflow.{Overflow}
use Rattle.source_tree.proofs.TreeValues.{eval_gives}
use Rattle.tree_eval.proofs.walk.eval_narrow.Goals as goal

pub follow-requires : goal.follow-requires
follow-requires c = (length c.args.at.now, length c.args.at.now, c.requires)

pub returns-in-Some-clause-value : goal.returns-in-Some-clause-value
returns-in-Some-clause-value c =
    eval_gives {E = Overflow} c.args.tree.now c.args.at.now (Ok c.in-Some.found) (sym c.in-Some.ensures)
