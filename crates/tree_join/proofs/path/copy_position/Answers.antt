use Rattle.std.proofs.Common.{◌∙◌, ap}
use Rattle.tree_join.proofs.path.copy_position.Goals as goal

pub returns : goal.returns
returns c = ap (λ rows. record c.args.at.now { rows = rows }) (c.in_ok-copy_rows.ensures ∙ c.as_slice.ensures)
