use Rattle.std.proofs.Common.{rules}
use Rattle.affine_core.proofs.Linear.{eval_value}
use Rattle.affine_core.proofs.form.Form.eval.Goals as goal

pub returns-clause-exact : goal.returns-clause-exact
returns-clause-exact c = search rules

pub returns-clause-value : goal.returns-clause-value
returns-clause-value c = eval_value c.args.self.now c.args.at.now c.add_products.result (returns-clause-exact c)
