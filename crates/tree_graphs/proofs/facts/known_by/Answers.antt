use Rattle.std.proofs.Common.{◌≡◌, ◌∷◌, ◌+◌, [], ℕ, length, sym, ap, ◌∙◌, subst, arith}
use Rattle.std.specs.Prelude.{IfNone, IfSome, Some, slice_get}
use Rattle.std.proofs.lemmas.Result.{IfOk-weaker}
use Rattle.affine_core.specs.declared.form.Form.{Form}
use Rattle.tree_graphs.specs.Facts.{form_parts, IsFact, NoRowTells, RowTells}
use Rattle.tree_graphs.specs.Paths.{term_of}
use Rattle.tree_graphs.proofs.FactLemmas.{none_told}
use Rattle.tree_graphs.proofs.FactSums.{row_fact}
use Rattle.tree_graphs.proofs.facts.known_by.Goals as goal

pub row_with-requires : goal.row_with-requires
row_with-requires c = omega (arith, ap length c.as_slice.ensures, c.args.context.now.fits.few)

pub returns-in_ok-once-in-Some-clause-some : goal.returns-in_ok-once-in-Some-clause-some
returns-in_ok-once-in-Some-clause-some c =
    let context = c.args.context.now.system.now in
    let form = c.args.form.now in
    let rows = c.as_slice.result.now in
    let h = subst
    (λ o. IfSome o
    (λ found. (at : ℕ) × (row : Form) × (found ≡ 0 + at) × (slice_get rows at ≡ Some row) × RowTells form row))
    c.in-Some.is c.row_with.ensures.some in
    let number : c.in-Some.number ≡ h.0 = omega (arith, h.2) in
    let here : slice_get context.rows h.0 ≡ Some h.1 =
    subst (λ rows. slice_get rows h.0 ≡ Some h.1) c.as_slice.ensures h.3 in
    subst (IsFact context 65536 (form_parts form))
    (sym (c.in_ok-once-in-Some.ensures ∙ ap (λ n. term_of n ∷ []) number))
    (row_fact context h.0 h.1 form here h.4)

pub returns-in-None-clause-none : goal.returns-in-None-clause-none
returns-in-None-clause-none c =
    let context = c.args.context.now.system.now in
    let form = c.args.form.now in
    let told : NoRowTells context.rows form =
    subst (λ rows. NoRowTells rows form) c.as_slice.ensures
    (subst (λ o. IfNone o (NoRowTells c.as_slice.result.now form)) c.in-None.is c.row_with.ensures.none) in
    IfOk-weaker c.by_search.result _ _ (λ found h. none_told found (NoRowTells context.rows form) told)
    c.by_search.ensures
