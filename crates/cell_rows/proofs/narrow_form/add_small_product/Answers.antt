use Rattle.std.proofs.Common.{FitsSigned}
use mir.Syntax.{w64}
use Rattle.std.proofs.lemmas.Int.{to_z-of_z}
use Rattle.cell_rows.proofs.FormSums.{small_product_fits, small_sum_fits}
use Rattle.cell_rows.proofs.narrow_form.add_small_product.Goals as goal

pub overflow_mul-result : goal.overflow_mul-result
overflow_mul-result c =
    let coef : FitsSigned w64 c.args.coef = c.ranges.coef in
    let value : FitsSigned w64 c.args.value = c.ranges.value in
    simp to_z-of_z (small_product_fits c.args.coef c.args.value c.requires.product)

pub overflow_add-result : goal.overflow_add-result
overflow_add-result c =
    let coef : FitsSigned w64 c.args.coef = c.ranges.coef in
    let value : FitsSigned w64 c.args.value = c.ranges.value in
    let sum : FitsSigned w64 c.args.sum = c.ranges.sum in
    let product = small_product_fits c.args.coef c.args.value c.requires.product in
    simp to_z-of_z (small_sum_fits c.args.sum c.args.coef c.args.value c.requires.sum c.requires.product)

pub returns : goal.returns
returns c =
    let coef : FitsSigned w64 c.args.coef = c.ranges.coef in
    let value : FitsSigned w64 c.args.value = c.ranges.value in
    let sum : FitsSigned w64 c.args.sum = c.ranges.sum in
    let product = small_product_fits c.args.coef c.args.value c.requires.product in
    let whole = small_sum_fits c.args.sum c.args.coef c.args.value c.requires.sum c.requires.product in
    simp to_z-of_z
