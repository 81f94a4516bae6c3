use Rattle.std.proofs.Common.{◌≡◌, ◌<◌, ◌∙◌, ◌*ℤ◌, length, refl, sym, ap, arith, rules, pos, slice_index_or, FitsSigned}
use Rattle.std.proofs.Common.{to_z}
use mir.Syntax.{w64, w128}
use Rattle.std.proofs.lemmas.Int.{to_z-of_z}
use Rattle.affine_core.specs.Affine.{form_at}
use Rattle.sanlp.proofs.ModerateForms.{as_many, moderate_at, moderate_constant, moderate_size, next_wide_sum}
use Rattle.sanlp.proofs.ModerateForms.{one_product_more, wide_product}
use Rattle.loop_walk.proofs.bounds.form_value.Goals as goal

pub loop-place-init : goal.loop-place-init
loop-place-init c =
    let constant : FitsSigned w128 c.args.form.now.constant = search rules in
    let moderate = moderate_constant c.args.form.now (length c.args.at.now) c.requires in (
      simp to_z-of_z (rw (c.as_slice-coefs.ensures.value, c.as_slice-values.ensures.value) refl),
      simp to_z-of_z (omega (arith, moderate)),
    )

pub moderate-coef-requires : goal.moderate-coef-requires
moderate-coef-requires c =
    let within : c.loop-place.place < length c.as_slice-coefs.result.now = search rules in
    let coef : FitsSigned w128 (slice_index_or c.as_slice-coefs.result.now c.loop-place.place (pos 0)) = search rules in
    simp to_z-of_z
    (moderate_at c.args.form.now
    (length c.args.at.now) c.as_slice-coefs.result.now c.loop-place.place c.requires c.as_slice-coefs.ensures.value
    within)

pub add_product-sum-requires-clause-coef : goal.add_product-sum-requires-clause-coef
add_product-sum-requires-clause-coef c =
    let coefs = c.as_slice-coefs.result.now in
    let place = c.loop-place.place in
    let within : c.loop-place.place < length c.as_slice-coefs.result.now = search rules in
    let coef : FitsSigned w128 (slice_index_or c.as_slice-coefs.result.now c.loop-place.place (pos 0)) = search rules in
    let narrow : FitsSigned w64 c.moderate-coef.result = search rules in
    let same = simp to_z-of_z at c.moderate-coef.ensures in
    let moderate =
    moderate_at c.args.form.now (length c.args.at.now) coefs place c.requires c.as_slice-coefs.ensures.value within in
    simp to_z-of_z (rw same (moderate_size (slice_index_or coefs place (pos 0)) moderate))

pub loop-place-preserved : goal.loop-place-preserved
loop-place-preserved c =
    let coefs = c.as_slice-coefs.result.now in
    let values = c.as_slice-values.result.now in
    let place = c.loop-place.place in
    let many : length c.as_slice-coefs.result.now ≡ length c.as_slice-values.result.now =
    ap length c.as_slice-coefs.ensures.value ∙ as_many c.args.form.now c.args.at.now c.requires
    ∙ sym (ap length c.as_slice-values.ensures.value) in
    let within : c.loop-place.place < length c.as_slice-coefs.result.now = search rules in
    let there : c.loop-place.place < length c.as_slice-values.result.now = omega (arith, many, within) in
    let coef : FitsSigned w128 (slice_index_or c.as_slice-coefs.result.now c.loop-place.place (pos 0)) = search rules in
    let value : FitsSigned w64 (slice_index_or c.as_slice-values.result.now c.loop-place.place (pos 0)) =
    search rules in
    let narrow : FitsSigned w64 c.moderate-coef.result = search rules in
    let sum : FitsSigned w128 c.add_product-sum.result = search rules in
    let same = simp to_z-of_z at c.moderate-coef.ensures in
    let moderate =
    moderate_at c.args.form.now (length c.args.at.now) coefs place c.requires c.as_slice-coefs.ensures.value within in
    let product =
    wide_product (slice_index_or coefs place (pos 0)) (slice_index_or values place (pos 0))
    (moderate_size (slice_index_or coefs place (pos 0)) moderate) value in
    let is = rw same at (simp to_z-of_z at c.add_product-sum.ensures) in
    let before = c.loop-place.invariant.0 in (
      simp to_z-of_z
          (rw is (one_product_more _ coefs values place (form_at c.args.form.now c.args.at.now) within there before)),
      simp to_z-of_z
          (next_wide_sum (to_z w128 c.loop-place.sum-bits)
          (slice_index_or coefs place (pos 0) *ℤ slice_index_or values place (pos 0)) c.add_product-sum.result place
          c.loop-place.invariant.1 product is),
    )
