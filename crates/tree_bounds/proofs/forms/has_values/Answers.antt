use Rattle.std.proofs.Common.{sym, ◌∙◌}
use Rattle.tree_bounds.proofs.Branches.{has_values}
use Rattle.tree_bounds.proofs.forms.has_values.Goals as goal

pub returns : goal.returns
returns c = λ told.
    has_values c.args.limit c.args.form.now c.value_bound.result c.value_bound.ensures.values
    (sym c.is_some.ensures ∙ told)
