use Rattle.std.proofs.Common.{arith}
use Rattle.std.proofs.lemmas.Grind.{common_steps}
use Rattle.affine_core.proofs.Linear.{variable_values}
use Rattle.affine_core.proofs.form.Form.variable.Goals as goal

pub returns-clause-form : goal.returns-clause-form
returns-clause-form c = grind (arith, common_steps)

pub returns-clause-values : goal.returns-clause-values
returns-clause-values c = variable_values c.args.variables c.args.variable _ (returns-clause-form c)
