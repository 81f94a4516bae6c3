use Rattle.std.proofs.Common.{rules, ◌≡◌, ◌∙◌, FitsSigned, w64, length, refl, sym, arith}
use Rattle.std.specs.Prelude.{ℤ, pos, slice_index_or, unsigned_abs}
use Rattle.std.proofs.lemmas.Int.{ints, to_z-of_z}
use Rattle.std.proofs.lemmas.Option.{cond_some}
use Rattle.affine_core.specs.Within.{fits_64_bits}
use Rattle.tree_eval.proofs.Lines.{line_along}
use Rattle.tree_eval.proofs.line.line_of.Goals as goal

pub returns-then-unsigned_abs-le-STEP_LIMIT : goal.returns-then-unsigned_abs-le-STEP_LIMIT
returns-then-unsigned_abs-le-STEP_LIMIT c =
    let first : FitsSigned w64 c.args.first = c.ranges.first in
    let value : FitsSigned w64 c.in_ok-value.value = search rules in
    let step : FitsSigned w64 c.in_ok-step.step = search rules in
    let coefficient : ℤ = slice_index_or c.args.form.now.coefs (length c.args.outer.now) (pos 0) in
    let size : c.unsigned_abs.result ≡ unsigned_abs c.in_ok-step.step = omega (arith, ints) in
    simp to_z-of_z
    (
    line_along c.args.form.now c.args.outer.now c.as_slice.result.now c.args.first c.in_ok-value.value
    c.in_ok-step.step (length c.args.outer.now) first value
    (c.as_slice.ensures.value ∙ simp to_z-of_z at c.extended-here.ensures) c.in_ok-value.ensures refl
    (sym (cond_some (fits_64_bits coefficient) coefficient c.in_ok-step.step (sym c.in_ok-step.ensures)).1)
    (omega (arith, size))
    )
