use Rattle.std.proofs.Common.{rules}
use Rattle.affine_core.proofs.Linear.{eval_value}
use Rattle.affine_core.proofs.kept_form.KeptForm.eval.Goals as goal

pub returns-in-Narrow-clause-exact : goal.returns-in-Narrow-clause-exact
returns-in-Narrow-clause-exact c = search rules

pub returns-in-Narrow-clause-value : goal.returns-in-Narrow-clause-value
returns-in-Narrow-clause-value c =
    eval_value c.args.self.now c.args.at.now c.add_narrow_products.result (returns-in-Narrow-clause-exact c)

pub returns-in-Wide-clause-exact : goal.returns-in-Wide-clause-exact
returns-in-Wide-clause-exact c = search rules

pub returns-in-Wide-clause-value : goal.returns-in-Wide-clause-value
returns-in-Wide-clause-value c =
    eval_value c.args.self.now c.args.at.now c.add_products.result (returns-in-Wide-clause-exact c)
