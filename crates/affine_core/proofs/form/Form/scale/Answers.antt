use Rattle.std.proofs.Common.{rules}
use Rattle.affine_core.proofs.Linear.{scale_values}
use Rattle.affine_core.proofs.form.Form.scale.Goals as goal

pub returns-clause-exact : goal.returns-clause-exact
returns-clause-exact c = search rules

pub returns-clause-values : goal.returns-clause-values
returns-clause-values c = scale_values c.args.by c.args.self.now _ (returns-clause-exact c)
