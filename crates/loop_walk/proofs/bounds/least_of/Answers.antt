use Rattle.std.proofs.Common.{rules}
use Rattle.std.specs.Prelude.{FitsSigned}
use Rattle.std.specs.Int.{w128, int_min}
use Rattle.std.proofs.lemmas.Int.{to_z-of_z}
use Rattle.affine_core.specs.Affine.{form_at}
use Rattle.loop_walk.proofs.LoopRange.{fold_map_more}
use Rattle.loop_walk.proofs.bounds.least_of.Goals as goal

pub loop-form-preserved : goal.loop-form-preserved
loop-form-preserved c =
    let fits : FitsSigned w128 c.min-value.result = search rules in
    let one_fits : FitsSigned w128 c.form_value.result = search rules in
    let next = simp to_z-of_z at c.min-value.ensures.value in
    simp to_z-of_z
    (fold_map_more int_min
    (λ form. form_at form c.args.at.now) _ c.in-Some.others.now c.loop-form.form-index c.form-item.result
    _ _ _ c.loop-form-test.true c.form-item.is c.loop-form.invariant c.form_value.ensures next)
