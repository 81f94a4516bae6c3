use Rattle.std.proofs.Common.{FitsSigned, rules}
use Rattle.std.specs.Int.{w128}
use Rattle.std.proofs.lemmas.Int.{to_z-of_z}
use Rattle.tree_bounds.proofs.Sums.{size_is_bound, size_of_form}
use Rattle.tree_bounds.proofs.forms.value_bound.Goals as goal

pub returns-clause-size : goal.returns-clause-size
returns-clause-size c =
    let fits : FitsSigned w128 c.get-form.result.constant = search rules in
    size_of_form c.args.form.now c.get-form.result c.args.limit c.unsigned_abs.result c.as_slice.result.now
    c.sum_bound.result c.get-form.ensures (simp to_z-of_z at c.unsigned_abs.ensures.value) c.as_slice.ensures.value
    c.sum_bound.ensures

pub returns-clause-values : goal.returns-clause-values
returns-clause-values c =
    let fits : FitsSigned w128 c.get-form.result.constant = search rules in
    size_is_bound c.args.form.now c.args.limit c.sum_bound.result
    (size_of_form c.args.form.now c.get-form.result c.args.limit c.unsigned_abs.result c.as_slice.result.now
    c.sum_bound.result c.get-form.ensures (simp to_z-of_z at c.unsigned_abs.ensures.value) c.as_slice.ensures.value
    c.sum_bound.ensures)
