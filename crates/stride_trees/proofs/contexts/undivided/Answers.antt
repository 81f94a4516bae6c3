-- The rows before are widened, and the two rows of a no are `form - d q - 1` and `d q + d - 1 - form`.
use Rattle.std.proofs.Common.{◌≡◌, ◌+◌, ◌^◌, ◌∷◌, [], length, pos, negsuc, ◌-ℤ◌, map, refl, sym, ap, ◌∙◌, subst, arith}
use Rattle.std.specs.Prelude.{Some}
use Rattle.affine_core.specs.Affine.{form_product, form_sum, widened_form}
use Rattle.tree_sums.specs.Parts.{IsWithin}
use Rattle.tree_sums.proofs.Within.{IsWithin-weaker}
use Rattle.source_tree.specs.Rows.{Take, Plus, minus, number, one_less, row_forms}
use Rattle.source_tree.specs.Systems.{multiple, undivided_rows}
use Rattle.stride_trees.proofs.AnswerContexts.{above_over, above_within, form_over, form_within, last_is, last_over, last_own, last_within}
use Rattle.stride_trees.proofs.AnswerContexts.{made_below, quotients_over, quotients_within, rows_pushed, small_below, strict_is}
use Rattle.stride_trees.proofs.AnswerContexts.{exact_product, last_raised, raised_form, strict_within, two_rows}
use Rattle.stride_trees.proofs.contexts.undivided.Goals as goal

pub difference-above-requires-clause-over : goal.difference-above-requires-clause-over
difference-above-requires-clause-over c =
    let t = c.requires.test in
    let q = c.args.context.now.vars in
    let d = c.args.test.now in
    let form = c.widened-form.result in
    let quotients = c.multiple-quotients.result in
    let is = c.widened-form.ensures.form in
    let are = c.multiple-quotients.ensures q refl ∙ exact_product q d.divisor t.1.small in
    form_over q t.0 d t.1 t.2 form quotients is are ∙ sym (quotients_over q t.0 d t.1 t.2 form quotients is are)

pub difference-above-requires-clause-first : goal.difference-above-requires-clause-first
difference-above-requires-clause-first c =
    let t = c.requires.test in
    IsWithin-weaker (2 ^ 33) (2 ^ 60) c.widened-form.result (omega arith)
    (form_within c.args.context.now.vars t.0 c.args.test.now t.1 t.2 c.widened-form.result c.multiple-quotients.result
    c.widened-form.ensures.form (c.multiple-quotients.ensures c.args.context.now.vars refl
    ∙ exact_product c.args.context.now.vars c.args.test.now.divisor t.1.small))

pub difference-above-requires-clause-second : goal.difference-above-requires-clause-second
difference-above-requires-clause-second c =
    let t = c.requires.test in
    IsWithin-weaker (2 ^ 32) (2 ^ 60) c.multiple-quotients.result (omega arith)
    (quotients_within c.args.context.now.vars t.0 c.args.test.now t.1 t.2 c.widened-form.result
    c.multiple-quotients.result c.widened-form.ensures.form (c.multiple-quotients.ensures c.args.context.now.vars refl
    ∙ exact_product c.args.context.now.vars c.args.test.now.divisor t.1.small))

pub raised-last-requires-clause-small : goal.raised-last-requires-clause-small
raised-last-requires-clause-small c =
    let t = c.requires.test in
    let context = c.args.context.now in
    let q = context.vars in
    let d = c.args.test.now in
    let form = c.widened-form.result in
    let quotients = c.multiple-quotients.result in
    let is = c.widened-form.ensures.form in
    let are = c.multiple-quotients.ensures q refl ∙ exact_product q d.divisor t.1.small in
    IsWithin-weaker (2 ^ 32) (2 ^ 60) quotients (omega arith) (quotients_within q t.0 d t.1 t.2 form quotients is are)

pub raised-first-requires-clause-small : goal.raised-first-requires-clause-small
raised-first-requires-clause-small c =
    let t = c.requires.test in
    let context = c.args.context.now in
    let q = context.vars in
    let d = c.args.test.now in
    let form = c.widened-form.result in
    let quotients = c.multiple-quotients.result in
    let is = c.widened-form.ensures.form in
    let are = c.multiple-quotients.ensures q refl ∙ exact_product q d.divisor t.1.small in
    subst (IsWithin (2 ^ 60)) (sym c.difference-above.ensures)
    (IsWithin-weaker (2 ^ 41) (2 ^ 60) _ (omega arith) (above_within q t.0 d t.1 t.2 form quotients is are))

pub difference-second-requires-clause-over : goal.difference-second-requires-clause-over
difference-second-requires-clause-over c =
    let t = c.requires.test in
    let context = c.args.context.now in
    let q = context.vars in
    let d = c.args.test.now in
    let form = c.widened-form.result in
    let quotients = c.multiple-quotients.result in
    let is = c.widened-form.ensures.form in
    let are = c.multiple-quotients.ensures q refl ∙ exact_product q d.divisor t.1.small in
    ap (λ f. length f.coefs)
    (c.raised-last.ensures ∙ last_raised d.divisor quotients t.1.small)
    ∙ quotients_over q t.0 d t.1 t.2 form quotients is are
    ∙ sym (form_over q t.0 d t.1 t.2 form quotients is are)

pub difference-second-requires-clause-first : goal.difference-second-requires-clause-first
difference-second-requires-clause-first c =
    let t = c.requires.test in
    let context = c.args.context.now in
    let q = context.vars in
    let d = c.args.test.now in
    let form = c.widened-form.result in
    let quotients = c.multiple-quotients.result in
    let is = c.widened-form.ensures.form in
    let are = c.multiple-quotients.ensures q refl ∙ exact_product q d.divisor t.1.small in
    subst (IsWithin (2 ^ 60))
    (sym (c.raised-last.ensures ∙ last_raised d.divisor quotients t.1.small))
    (IsWithin-weaker (2 ^ 34) (2 ^ 60) _ (omega arith) (last_own q t.0 d t.1 t.2 form quotients is are))

pub difference-second-requires-clause-second : goal.difference-second-requires-clause-second
difference-second-requires-clause-second c =
    let t = c.requires.test in
    let context = c.args.context.now in
    let q = context.vars in
    let d = c.args.test.now in
    let form = c.widened-form.result in
    let quotients = c.multiple-quotients.result in
    let is = c.widened-form.ensures.form in
    let are = c.multiple-quotients.ensures q refl ∙ exact_product q d.divisor t.1.small in
    IsWithin-weaker (2 ^ 33) (2 ^ 60) form (omega arith) (form_within q t.0 d t.1 t.2 form quotients is are)

pub returns-clause-made : goal.returns-clause-made
returns-clause-made c cx h =
    let t = c.requires.test in
    let context = c.args.context.now in
    let q = context.vars in
    let d = c.args.test.now in
    let form = c.widened-form.result in
    let quotients = c.multiple-quotients.result in
    let is = c.widened-form.ensures.form in
    let are = c.multiple-quotients.ensures q refl ∙ exact_product q d.divisor t.1.small in
    let low = form_sum form (form_product (negsuc 0) quotients) in
    let first = raised_form (negsuc 0) low in
    let last = raised_form (d.divisor -ℤ pos 1) quotients in
    let strict_made : c.raised-first.result ≡ first = c.raised-first.ensures ∙ ap (raised_form (negsuc 0)) c.difference-above.ensures in
    let last_made : c.raised-last.result ≡ last =
    c.raised-last.ensures ∙ last_raised d.divisor quotients t.1.small in
    let second = form_sum last (form_product (negsuc 0) form) in
    let made : row_forms (q + 1) (undivided_rows q (widened_form q d.form) d.divisor) ≡ Some (first ∷ second ∷ [])
    = two_rows (q + 1) (one_less (minus (Take (widened_form q d.form)) (multiple d.divisor q)))
    (minus (one_less (Plus (multiple d.divisor q) (number d.divisor))) (Take (widened_form q d.form))) first second
    (strict_is q t.0 d t.1 t.2 form quotients is are) (last_is q t.0 d t.1 t.2 form quotients is are) in
    made_below context (record { vars = q + 1; rows = c.in_ok-rows.rows }) cx
    (undivided_rows cx.vars (widened_form cx.vars d.form) d.divisor) first second h refl
    (rows_pushed c.in_ok-rows.rows (map (widened_form (q + 1)) context.rows) c.raised-first.result
    c.difference-second.result first second c.in_ok-rows.ensures strict_made
    (c.difference-second.ensures ∙ ap (λ f. form_sum f (form_product (negsuc 0) form)) last_made))
    (subst (λ v. row_forms (q + 1) (undivided_rows v (widened_form v d.form) d.divisor) ≡ Some (first ∷ second ∷ []))
    (sym h.vars) made)

pub returns-clause-rows : goal.returns-clause-rows
returns-clause-rows c =
    let t = c.requires.test in
    let context = c.args.context.now in
    let q = context.vars in
    let d = c.args.test.now in
    let form = c.widened-form.result in
    let quotients = c.multiple-quotients.result in
    let is = c.widened-form.ensures.form in
    let are = c.multiple-quotients.ensures q refl ∙ exact_product q d.divisor t.1.small in
    let low = form_sum form (form_product (negsuc 0) quotients) in
    let first = raised_form (negsuc 0) low in
    let last = raised_form (d.divisor -ℤ pos 1) quotients in
    let strict_made : c.raised-first.result ≡ first = c.raised-first.ensures ∙ ap (raised_form (negsuc 0)) c.difference-above.ensures in
    let last_made : c.raised-last.result ≡ last =
    c.raised-last.ensures ∙ last_raised d.divisor quotients t.1.small in
    let second = form_sum last (form_product (negsuc 0) form) in
    small_below context (record { vars = q + 1; rows = c.in_ok-rows.rows }) first second c.requires.rows refl
    (rows_pushed c.in_ok-rows.rows (map (widened_form (q + 1)) context.rows) c.raised-first.result
    c.difference-second.result first second c.in_ok-rows.ensures strict_made
    (c.difference-second.ensures ∙ ap (λ f. form_sum f (form_product (negsuc 0) form)) last_made))
    (above_over q t.0 d t.1 t.2 form quotients is are) (last_over q t.0 d t.1 t.2 form quotients is are)
    (strict_within q t.0 d t.1 t.2 form quotients is are) (last_within q t.0 d t.1 t.2 form quotients is are)
