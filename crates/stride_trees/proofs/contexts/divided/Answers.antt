-- The rows before are widened, and the two rows of a yes are `form - d q` and its opposite.
use Rattle.std.proofs.Common.{◌≡◌, ◌+◌, ◌^◌, ◌∷◌, [], negsuc, map, refl, sym, ◌∙◌, subst, arith}
use Rattle.std.specs.Prelude.{Some}
use Rattle.affine_core.specs.Affine.{form_product, form_sum, widened_form}
use Rattle.source_tree.specs.Rows.{Take, minus, row_forms}
use Rattle.source_tree.specs.Systems.{divided_rows, multiple}
use Rattle.stride_trees.proofs.AnswerContexts.{above_is, above_over, above_within, below_is, below_over, below_within, form_over}
use Rattle.stride_trees.proofs.AnswerContexts.{form_within, made_below, quotients_over, quotients_within, rows_pushed, small_below}
use Rattle.stride_trees.proofs.AnswerContexts.{exact_product, two_rows}
use Rattle.stride_trees.proofs.contexts.divided.Goals as goal
use Rattle.tree_sums.proofs.Within.{IsWithin-weaker}

pub difference-first-requires-clause-over : goal.difference-first-requires-clause-over
difference-first-requires-clause-over c =
    let t = c.requires.test in
    let q = c.args.context.now.vars in
    let d = c.args.test.now in
    let form = c.widened-form.result in
    let quotients = c.multiple-quotients.result in
    let is = c.widened-form.ensures.form in
    let are = c.multiple-quotients.ensures q refl ∙ exact_product q d.divisor t.1.small in
    form_over q t.0 d t.1 t.2 form quotients is are ∙ sym (quotients_over q t.0 d t.1 t.2 form quotients is are)

pub difference-first-requires-clause-first : goal.difference-first-requires-clause-first
difference-first-requires-clause-first c =
    let t = c.requires.test in
    IsWithin-weaker (2 ^ 33) (2 ^ 60) c.widened-form.result (omega arith)
    (form_within c.args.context.now.vars t.0 c.args.test.now t.1 t.2 c.widened-form.result c.multiple-quotients.result
    c.widened-form.ensures.form (c.multiple-quotients.ensures c.args.context.now.vars refl
    ∙ exact_product c.args.context.now.vars c.args.test.now.divisor t.1.small))

pub difference-first-requires-clause-second : goal.difference-first-requires-clause-second
difference-first-requires-clause-second c =
    let t = c.requires.test in
    IsWithin-weaker (2 ^ 32) (2 ^ 60) c.multiple-quotients.result (omega arith)
    (quotients_within c.args.context.now.vars t.0 c.args.test.now t.1 t.2 c.widened-form.result
    c.multiple-quotients.result c.widened-form.ensures.form (c.multiple-quotients.ensures c.args.context.now.vars refl
    ∙ exact_product c.args.context.now.vars c.args.test.now.divisor t.1.small))

pub difference-second-requires-clause-over : goal.difference-second-requires-clause-over
difference-second-requires-clause-over c =
    let t = c.requires.test in
    let q = c.args.context.now.vars in
    let d = c.args.test.now in
    let form = c.widened-form.result in
    let quotients = c.multiple-quotients.result in
    let is = c.widened-form.ensures.form in
    let are = c.multiple-quotients.ensures q refl ∙ exact_product q d.divisor t.1.small in
    quotients_over q t.0 d t.1 t.2 form quotients is are ∙ sym (form_over q t.0 d t.1 t.2 form quotients is are)

pub difference-second-requires-clause-first : goal.difference-second-requires-clause-first
difference-second-requires-clause-first c =
    let t = c.requires.test in
    IsWithin-weaker (2 ^ 32) (2 ^ 60) c.multiple-quotients.result (omega arith)
    (quotients_within c.args.context.now.vars t.0 c.args.test.now t.1 t.2 c.widened-form.result
    c.multiple-quotients.result c.widened-form.ensures.form (c.multiple-quotients.ensures c.args.context.now.vars refl
    ∙ exact_product c.args.context.now.vars c.args.test.now.divisor t.1.small))

pub difference-second-requires-clause-second : goal.difference-second-requires-clause-second
difference-second-requires-clause-second c =
    let t = c.requires.test in
    IsWithin-weaker (2 ^ 33) (2 ^ 60) c.widened-form.result (omega arith)
    (form_within c.args.context.now.vars t.0 c.args.test.now t.1 t.2 c.widened-form.result c.multiple-quotients.result
    c.widened-form.ensures.form (c.multiple-quotients.ensures c.args.context.now.vars refl
    ∙ exact_product c.args.context.now.vars c.args.test.now.divisor t.1.small))

pub returns-clause-made : goal.returns-clause-made
returns-clause-made c cx h =
    let t = c.requires.test in
    let context = c.args.context.now in
    let q = context.vars in
    let d = c.args.test.now in
    let form = c.widened-form.result in
    let quotients = c.multiple-quotients.result in
    let is = c.widened-form.ensures.form in
    let are = c.multiple-quotients.ensures q refl ∙ exact_product q d.divisor t.1.small in
    let first = form_sum form (form_product (negsuc 0) quotients) in
    let second = form_sum quotients (form_product (negsuc 0) form) in
    let made : row_forms (q + 1) (divided_rows q (widened_form q d.form) d.divisor) ≡ Some (first ∷ second ∷ [])
    = two_rows (q + 1) (minus (Take (widened_form q d.form)) (multiple d.divisor q))
    (minus (multiple d.divisor q) (Take (widened_form q d.form))) first second
    (above_is q t.0 d t.1 t.2 form quotients is are)
    (below_is q t.0 d t.1 t.2 form quotients is are) in
    made_below context (record { vars = q + 1; rows = c.in_ok-rows.rows }) cx
    (divided_rows cx.vars (widened_form cx.vars d.form) d.divisor) first second h refl
    (rows_pushed c.in_ok-rows.rows (map (widened_form (q + 1)) context.rows) c.difference-first.result
    c.difference-second.result first second c.in_ok-rows.ensures c.difference-first.ensures c.difference-second.ensures)
    (subst (λ v. row_forms (q + 1) (divided_rows v (widened_form v d.form) d.divisor) ≡ Some (first ∷ second ∷ []))
    (sym h.vars) made)

pub returns-clause-rows : goal.returns-clause-rows
returns-clause-rows c =
    let t = c.requires.test in
    let context = c.args.context.now in
    let q = context.vars in
    let d = c.args.test.now in
    let form = c.widened-form.result in
    let quotients = c.multiple-quotients.result in
    let is = c.widened-form.ensures.form in
    let are = c.multiple-quotients.ensures q refl ∙ exact_product q d.divisor t.1.small in
    let first = form_sum form (form_product (negsuc 0) quotients) in
    let second = form_sum quotients (form_product (negsuc 0) form) in
    small_below context (record { vars = q + 1; rows = c.in_ok-rows.rows }) first second c.requires.rows refl
    (rows_pushed c.in_ok-rows.rows (map (widened_form (q + 1)) context.rows) c.difference-first.result
    c.difference-second.result first second c.in_ok-rows.ensures c.difference-first.ensures c.difference-second.ensures)
    (above_over q t.0 d t.1 t.2 form quotients is are) (below_over q t.0 d t.1 t.2 form quotients is are)
    (above_within q t.0 d t.1 t.2 form quotients is are) (below_within q t.0 d t.1 t.2 form quotients is are)
