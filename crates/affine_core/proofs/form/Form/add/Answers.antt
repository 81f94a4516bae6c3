use Rattle.std.proofs.Common.{rules}
use Rattle.affine_core.proofs.Linear.{add_values}
use Rattle.affine_core.proofs.form.Form.add.Goals as goal

pub returns-clause-exact : goal.returns-clause-exact
returns-clause-exact c = search rules

pub returns-clause-values : goal.returns-clause-values
returns-clause-values c = add_values c.args.self.now c.args.other.now _ c.requires (returns-clause-exact c)
