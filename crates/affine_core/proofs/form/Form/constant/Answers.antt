use Rattle.std.proofs.Common.{rules}
use Rattle.affine_core.proofs.Linear.{constant_values}
use Rattle.affine_core.proofs.form.Form.constant.Goals as goal

pub returns-clause-form : goal.returns-clause-form
returns-clause-form c = search rules

pub returns-clause-values : goal.returns-clause-values
returns-clause-values c = constant_values c.args.variables c.args.constant _ (returns-clause-form c)
