use Rattle.std.proofs.Common.{◌<◌, ◌*ℤ◌, length, refl, arith, rules, pos, slice_index_or, FitsSigned, to_z}
use mir.Syntax.{w64, w128}
use Rattle.std.proofs.lemmas.Int.{to_z-of_z}
use Rattle.affine_core.specs.Affine.{combined}
use Rattle.sanlp.proofs.ModerateForms.{as_many, moderate_at, moderate_size, next_wide_sum, one_product_more}
use Rattle.sanlp.proofs.ModerateForms.{wide_product}
use Rattle.cell_rows.proofs.narrow_form.wide_sum.Goals as goal

pub loop-place-preserved : goal.loop-place-preserved
loop-place-preserved c =
    let coefs = c.args.coefs.now in
    let values = c.args.values.now in
    let place = c.loop-place.place in
    let many =
    as_many (record { constant = c.args.constant; coefs = c.args.coefs.now }) c.args.values.now c.requires.fits in
    let within : c.loop-place.place < length c.args.coefs.now = search rules in
    let there : c.loop-place.place < length c.args.values.now = omega (arith, many, within) in
    let constant : FitsSigned w64 c.args.constant = c.ranges.constant in
    let coef : FitsSigned w64 (slice_index_or c.args.coefs.now c.loop-place.place (pos 0)) = search rules in
    let value : FitsSigned w64 (slice_index_or c.args.values.now c.loop-place.place (pos 0)) = search rules in
    let moderate =
    moderate_at (record { constant = c.args.constant; coefs = coefs })
    (length values) coefs place c.requires.fits refl within in
    let product =
    wide_product (slice_index_or coefs place (pos 0)) (slice_index_or values place (pos 0))
    (moderate_size (slice_index_or coefs place (pos 0)) moderate) value in
    let sum : FitsSigned w128 c.add_product-sum.result = search rules in
    let is = simp to_z-of_z at c.add_product-sum.ensures in
    let before = simp to_z-of_z at c.loop-place.invariant.0 in (
      simp to_z-of_z
          (rw is (one_product_more _ coefs values place (combined c.args.constant coefs values) within there before)),
      simp to_z-of_z
          (next_wide_sum (to_z w128 c.loop-place.sum-bits)
          (slice_index_or coefs place (pos 0) *ℤ slice_index_or values place
          (pos 0)) c.add_product-sum.result place c.loop-place.invariant.1 product is),
    )
