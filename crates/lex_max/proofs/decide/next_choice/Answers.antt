use Rattle.std.proofs.Common.{◌++◌, ◌∷◌, [], List, length, map, refl, sym, ap, ◌∙◌, subst}
use Rattle.std.specs.Prelude.{Some, IfSome}
use Rattle.std.proofs.lemmas.Result.{IfOk-weaker}
use Rattle.affine_core.specs.declared.form.Form.{Form}
use Rattle.int_polyhedra.specs.declared.system.Term.{Term}
use Rattle.lex_max.specs.Choices.{with_terms, IsNextChoice}
use Rattle.tree_graphs.specs.Facts.{form_parts, IsFact}
use Rattle.lex_max.proofs.DecisionContexts.{next_kept, next_switched}
use Rattle.tree_graphs.proofs.Small.{negative_over}
use Rattle.lex_max.proofs.decide.next_choice.Goals as goal

pub returns-in-Some : goal.returns-in-Some
returns-in-Some c =
    let context = c.args.context.now.system.now in
    let choice = c.args.choice.now in
    let form = c.args.form.now in
    let above = c.args.above.now in
    let terms = c.in-Some.terms in
    let fact = subst (λ o. IfSome o (IsFact context 65536 (form_parts above))) c.in-Some.is c.in_ok-found.ensures.some
    in
    IfOk-weaker c.kept_choice.result _ _
    (λ next is.
    subst (λ o. IfSome o (IsNextChoice context context (Some form) choice)) (sym is)
    (next_kept context choice (record choice { less = choice.less ++ Some terms ∷ [] }) form above terms
    c.requires.parts refl fact)) c.kept_choice.ensures

pub known-requires-2 : goal.known-requires-2
known-requires-2 c = ap (λ (f : Form). length f.coefs) c.negative-less.ensures
    ∙ negative_over c.args.above.now ∙ c.requires.over

pub returns : goal.returns
returns c =
    let context = c.args.context.now.system.now in
    let choice = c.args.choice.now in
    let form = c.args.form.now in
    let less = c.negative-less.result in
    let terms = c.in-Some-shown.terms in
    let fact = subst (λ o. IfSome o (IsFact context 65536 (form_parts less))) c.in-Some-shown.is c.in_ok-shown.ensures.some
    in
    next_switched context choice c.in_ok-next.next form c.args.above.now less terms c.requires.parts
    c.negative-less.ensures
    (c.in_ok-next.ensures ∙ ap (λ (ts : List Term). record {
      edge = length choice.less;
      form = form;
      less =
          map (with_terms ts) choice.less ++ Some [] ∷ [];
    }) c.as_slice.ensures) fact
