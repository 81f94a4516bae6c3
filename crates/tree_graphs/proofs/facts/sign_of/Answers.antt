use Rattle.std.proofs.Common.{subst}
use Rattle.std.specs.Prelude.{IfNone}
use Rattle.tree_graphs.specs.Facts.{NoRowTells}
use Rattle.tree_graphs.proofs.facts.sign_of.Goals as goal

pub returns-in-None-below : goal.returns-in-None-below
returns-in-None-below c = (
  subst (λ o. IfNone o (NoRowTells c.args.context.now.system.now.rows c.args.form.now)) c.in-None.is
      c.in_ok-above.ensures.none,
  subst (λ o. IfNone o (NoRowTells c.args.context.now.system.now.rows c.args.opposite.now)) c.in-None-below.is
      c.in_ok-below-in-None.ensures.none,
)
