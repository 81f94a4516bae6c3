use Rattle.std.proofs.Common.{rules}
use Rattle.affine_core.proofs.Linear.{widened_values}
use Rattle.affine_core.proofs.form.Form.widened.Goals as goal

pub returns-clause-form : goal.returns-clause-form
returns-clause-form c = search rules

pub returns-clause-values : goal.returns-clause-values
returns-clause-values c = widened_values c.args.variables c.args.self.now _ (returns-clause-form c)
