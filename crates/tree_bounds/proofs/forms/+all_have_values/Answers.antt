use Rattle.tree_bounds.proofs.Branches.{one_form}
use Rattle.tree_bounds.proofs.forms.+all_have_values.Goals as goal

pub returns-then-has_values : goal.returns-then-has_values
returns-then-has_values t c = λ told.
    one_form c.args.limit c.in-Some.form.now c.in-Some.place.now c.args.place.now c.in-Some.ensures.cases.0
    (c.has_values.ensures c.if-has_values.true) (c.all_have_values.ensures told)
