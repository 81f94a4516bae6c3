use Rattle.std.proofs.Common.{FitsSigned}
use mir.Syntax.{w64, w128}
use Rattle.std.proofs.Math.Facts.{sfits_widen}
use Rattle.std.proofs.lemmas.Int.{to_z-of_z}
use Rattle.sanlp.proofs.ModerateForms.{wide_product_fits, wide_sum_fits}
use Rattle.sanlp.proofs.wide.add_product.Goals as goal

pub overflow_add-result : goal.overflow_add-result
overflow_add-result c =
    let sum : FitsSigned w128 c.args.sum = c.ranges.sum in
    let coef64 : FitsSigned w64 c.args.coef = c.ranges.coef in
    let value64 : FitsSigned w64 c.args.value = c.ranges.value in
    let coef : FitsSigned w128 c.args.coef = sfits_widen tt coef64 in
    let value : FitsSigned w128 c.args.value = sfits_widen tt value64 in
    let product = wide_product_fits c.args.coef c.args.value c.requires.coef value64 in
    simp to_z-of_z (wide_sum_fits c.args.sum c.args.coef c.args.value c.requires.sum c.requires.coef value64)

pub returns : goal.returns
returns c =
    let sum : FitsSigned w128 c.args.sum = c.ranges.sum in
    let coef64 : FitsSigned w64 c.args.coef = c.ranges.coef in
    let value64 : FitsSigned w64 c.args.value = c.ranges.value in
    let coef : FitsSigned w128 c.args.coef = sfits_widen tt coef64 in
    let value : FitsSigned w128 c.args.value = sfits_widen tt value64 in
    let product = wide_product_fits c.args.coef c.args.value c.requires.coef value64 in
    let whole = wide_sum_fits c.args.sum c.args.coef c.args.value c.requires.sum c.requires.coef value64 in
    simp to_z-of_z
