use Rattle.std.proofs.Common.{◌≡◌, ◌+◌, ◌^◌, ◌∷◌, [], length, refl, sym, ap, ◌∙◌, subst, arith, rules}
use Rattle.std.specs.Prelude.{IfOk, IfSome}
use Rattle.std.specs.List.{sum_by}
use Rattle.std.proofs.lemmas.List.{length_push, nil_from_length}
use Rattle.std.proofs.lemmas.List.Sums.{sum_by-cons}
use Rattle.std.proofs.lemmas.Result.{IfOk-weaker}
use Rattle.affine_core.specs.declared.form.Form.{Form}
use Rattle.lex_max.specs.Answer.{IsAnswer, IsContextOf}
use Rattle.tree_graphs.specs.Asked.{depth_of_write}
use Rattle.lex_max.specs.ChoiceSteps.{AreSmallForms, IsChoiceStep, IsFollowed, IsSmallForm}
use Rattle.lex_max.specs.Choices.{choices_left, IsChoosing}
use Rattle.tree_graphs.specs.Facts.{with_form}
use Rattle.tree_graphs.proofs.Small.{negation_of-some}
use Rattle.lex_max.proofs.LeastForm.{choices_behind}
use Rattle.lex_max.proofs.DecisionContexts.{chosen_all, choosing_end, choosing_start, choosing_step, context_is}
use Rattle.lex_max.proofs.DecisionContexts.{context_more, few_uppers, next_more, opposite_long, opposite_small}
use Rattle.lex_max.proofs.DecisionContexts.{some_upper}
use Rattle.lex_max.proofs.ChoiceForms.{chosen_small, next_small, small_uppers}
use Rattle.lex_max.proofs.TestTrees.{answer_test}
use Rattle.lex_max.proofs.ZeroLeaves.{answer_wider, context_less}
use Rattle.tree_sums.specs.Parts.{IsWithin}
use Rattle.tree_sums.proofs.Within.{IsWithin-weaker}
use Rattle.source_tree.specs.declared.tree.Tree.TheViews.{Test}
use Rattle.lex_max.proofs.Ready.{ready_of}
use Rattle.lex_max.proofs.decide.+choose.Goals as goal

-- The forms of a variable are used up

pub choose-choose_next-requires : goal.choose-choose_next-requires
choose-choose_next-requires t c =
    let w = c.args.graph.now.writes in
    let edges = c.args.graph.now.edges.now in
    let bounds = c.args.graph.now.bounds.now in
    let context = c.args.context.now in
    let more = c.args.more.now in
    let none : c.args.forms.now ≡ [] = nil_from_length c.args.forms.now c.in_default.ensures.cases in (
      omega (arith, ap length none),
      (
        context_less w context (choices_left [] more) (choices_left c.args.forms.now more)
            (omega (arith, ap length none)) c.requires.context,
        subst (λ forms. IsChoosing (depth_of_write w) bounds edges context forms more c.args.choice.now
            c.args.choices.now) none c.requires.choosing,
      ),
    )

pub choose-returns-in_default : goal.choose-returns-in_default
choose-returns-in_default t c =
    let more = c.args.more.now in
    let none : c.args.forms.now ≡ [] = nil_from_length c.args.forms.now c.in_default.ensures.cases in
    IfOk-weaker c.choose_next.result _ _
    (λ tree h. answer_wider c.args.graph.now.writes c.args.context.now (choices_left [] more)
    (choices_left c.args.forms.now more) tree (omega (arith, ap length none)) h) c.choose_next.ensures

-- The next form

pub choose-invariant_of-here : goal.choose-invariant_of-here
choose-invariant_of-here t c =
    record {
      fits = context_is c.args.graph.now.writes (choices_left c.args.forms.now c.args.more.now) c.args.context.now
          c.requires.context;
    }

pub choose-choice_step-requires-clause-chosen : goal.choose-choice_step-requires-clause-chosen
choose-choice_step-requires-clause-chosen t c =
    let w = c.args.graph.now.writes in
    let edges = c.args.graph.now.edges.now in
    let bounds = c.args.graph.now.bounds.now in
    let context = c.args.context.now in
    let form = c.in-Some.form.now in
    let forms = c.in-Some.forms.now in
    let choice = c.args.choice.now in
    let first : c.args.forms.now ≡ form ∷ forms = search rules in
    let h = subst (λ fs. IsChoosing (depth_of_write w) bounds edges context fs c.args.more.now choice
    c.args.choices.now) first c.requires.choosing in
    subst (λ v. IsSmallForm v choice.form) (sym c.requires.context.vars)
    (chosen_small w edges bounds (ready_of c.args.graph.now) context forms c.args.more.now choice c.args.choices.now
    form h)

pub choose-choice_step-requires-clause-form : goal.choose-choice_step-requires-clause-form
choose-choice_step-requires-clause-form t c =
    let w = c.args.graph.now.writes in
    let edges = c.args.graph.now.edges.now in
    let bounds = c.args.graph.now.bounds.now in
    let context = c.args.context.now in
    let form = c.in-Some.form.now in
    let forms = c.in-Some.forms.now in
    let choice = c.args.choice.now in
    let first : c.args.forms.now ≡ form ∷ forms = search rules in
    let h = subst (λ fs. IsChoosing (depth_of_write w) bounds edges context fs c.args.more.now choice
    c.args.choices.now) first c.requires.choosing in
    subst (λ v. IfSome form (IsSmallForm v)) (sym c.requires.context.vars)
    (next_small w edges bounds (ready_of c.args.graph.now) context forms c.args.more.now choice c.args.choices.now form
    h)

pub choose-follow-tree-requires : goal.choose-follow-tree-requires
choose-follow-tree-requires t c =
    let w = c.args.graph.now.writes in
    let edges = c.args.graph.now.edges.now in
    let bounds = c.args.graph.now.bounds.now in
    let context = c.args.context.now in
    let form = c.in-Some.form.now in
    let forms = c.in-Some.forms.now in
    let more = c.args.more.now in
    let choice = c.args.choice.now in
    let choices = c.args.choices.now in
    let step = c.in_ok-step.step in
    let first : c.args.forms.now ≡ form ∷ forms = search rules in
    let followed : IsFollowed (depth_of_write w) bounds edges context forms more step choices =
    record {
      form = form;
      choice = choice;
      choosing = subst (λ fs. IsChoosing (depth_of_write w) bounds edges context fs more choice choices) first
          c.requires.choosing;
      follows = c.in_ok-step.ensures;
    } in (
      omega (arith, ap length first),
      (
        context_less w context (choices_left forms more + 1) (choices_left c.args.forms.now more)
            (omega (arith, ap length first)) c.requires.context,
        followed,
      ),
    )

pub choose-returns : goal.choose-returns
choose-returns t c =
    let forms = c.in-Some.forms.now in
    let more = c.args.more.now in
    let first : c.args.forms.now ≡ c.in-Some.form.now ∷ forms = search rules in
    IfOk-weaker c.follow-tree.result _ _
    (λ tree h. answer_wider c.args.graph.now.writes c.args.context.now (choices_left forms more + 1)
    (choices_left c.args.forms.now more) tree (omega (arith, ap length first)) h) c.follow-tree.ensures

-- The next variable

pub choose_next-confirm_all-requires-clause-context : goal.choose_next-confirm_all-requires-clause-context
choose_next-confirm_all-requires-clause-context t c =
    let few = c.args.graph.now.graph.graph.few in
    context_less c.args.graph.now.writes c.args.context.now (length c.args.graph.now.edges.now)
    (choices_left [] c.args.more.now) (omega (arith, few)) c.requires.context

pub choose_next-confirm_all-requires-clause-chosen : goal.choose_next-confirm_all-requires-clause-chosen
choose_next-confirm_all-requires-clause-chosen t c =
    let w = c.args.graph.now.writes in
    let edges = c.args.graph.now.edges.now in
    let bounds = c.args.graph.now.bounds.now in
    let context = c.args.context.now in
    let no_more : c.args.more.now ≡ [] = nil_from_length c.args.more.now c.in_default.ensures.cases in
    let h = subst
    (λ more. IsChoosing (depth_of_write w) bounds edges context [] more c.args.choice.now c.args.choices.now) no_more
    c.requires.choosing in
    chosen_all w edges bounds (ready_of c.args.graph.now) context c.args.choice.now c.args.choices.now
    c.as_slice-chosen.result.now
    (c.as_slice-chosen.ensures ∙ c.in_ok-all.ensures) h

pub choose_next-returns-in_default : goal.choose_next-returns-in_default
choose_next-returns-in_default t c =
    let few = c.args.graph.now.graph.graph.few in
    IfOk-weaker c.confirm_all.result _ _
    (λ tree h. answer_wider c.args.graph.now.writes c.args.context.now (length c.args.graph.now.edges.now)
    (choices_left [] c.args.more.now) tree (omega (arith, few)) h) c.confirm_all.ensures

pub choose_next-invariant_of-here : goal.choose_next-invariant_of-here
choose_next-invariant_of-here t c = record {
  fits = context_is c.args.graph.now.writes (choices_left [] c.args.more.now)
      c.args.context.now c.requires.context;
}

pub choose_next-start-requires-clause-forms : goal.choose_next-start-requires-clause-forms
choose_next-start-requires-clause-forms t c =
    let w = c.args.graph.now.writes in
    let edges = c.args.graph.now.edges.now in
    let bounds = c.args.graph.now.bounds.now in
    let context = c.args.context.now in
    let next = c.in-Some.next.now in
    let rest = c.in-Some.more.now in
    let more_is : c.args.more.now ≡ next ∷ rest = search rules in
    let h = subst
    (λ more. IsChoosing (depth_of_write w) bounds edges context [] more c.args.choice.now c.args.choices.now) more_is
    c.requires.choosing in
    let n = next_more w edges bounds (ready_of c.args.graph.now) context next rest c.args.choice.now c.args.choices.now
    h in
    subst (λ v. AreSmallForms v c.as_slice-next.result.now) (sym c.requires.context.vars)
    (small_uppers w edges bounds (ready_of c.args.graph.now) (length c.args.choices.now + 1) c.as_slice-next.result.now
    (c.as_slice-next.ensures ∙ n.forms))

pub choose_next-start-requires-clause-few : goal.choose_next-start-requires-clause-few
choose_next-start-requires-clause-few t c =
    let w = c.args.graph.now.writes in
    let edges = c.args.graph.now.edges.now in
    let bounds = c.args.graph.now.bounds.now in
    let context = c.args.context.now in
    let next = c.in-Some.next.now in
    let rest = c.in-Some.more.now in
    let more_is : c.args.more.now ≡ next ∷ rest = search rules in
    let h = subst
    (λ more. IsChoosing (depth_of_write w) bounds edges context [] more c.args.choice.now c.args.choices.now) more_is
    c.requires.choosing in
    let n = next_more w edges bounds (ready_of c.args.graph.now) context next rest c.args.choice.now c.args.choices.now
    h in
    few_uppers w edges bounds (ready_of c.args.graph.now) (length c.args.choices.now + 1) c.as_slice-next.result.now
    (c.as_slice-next.ensures ∙ n.forms)

pub choose_next-start-requires-clause-some : goal.choose_next-start-requires-clause-some
choose_next-start-requires-clause-some t c =
    let w = c.args.graph.now.writes in
    let edges = c.args.graph.now.edges.now in
    let bounds = c.args.graph.now.bounds.now in
    let context = c.args.context.now in
    let next = c.in-Some.next.now in
    let rest = c.in-Some.more.now in
    let more_is : c.args.more.now ≡ next ∷ rest = search rules in
    let h = subst
    (λ more. IsChoosing (depth_of_write w) bounds edges context [] more c.args.choice.now c.args.choices.now) more_is
    c.requires.choosing in
    let n = next_more w edges bounds (ready_of c.args.graph.now) context next rest c.args.choice.now c.args.choices.now
    h in
    some_upper w edges bounds (ready_of c.args.graph.now) (length c.args.choices.now + 1) c.as_slice-next.result.now
    n.inside
    (c.as_slice-next.ensures ∙ n.forms)

pub choose_next-choose-requires : goal.choose_next-choose-requires
choose_next-choose-requires t c =
    let w = c.args.graph.now.writes in
    let edges = c.args.graph.now.edges.now in
    let bounds = c.args.graph.now.bounds.now in
    let context = c.args.context.now in
    let next = c.in-Some.next.now in
    let rest = c.in-Some.more.now in
    let more_is : c.args.more.now ≡ next ∷ rest = search rules in
    let h = subst
    (λ more. IsChoosing (depth_of_write w) bounds edges context [] more c.args.choice.now c.args.choices.now) more_is
    c.requires.choosing in
    let n = next_more w edges bounds (ready_of c.args.graph.now) context next rest c.args.choice.now c.args.choices.now
    h in
    let forms = c.as_slice-next.result.now in
    let fewer = ap length c.as_slice-next.ensures in (
      omega (
        arith,
        ap (sum_by (λ fs. length fs + 1)) more_is,
        sum_by-cons (λ fs. length fs + 1) next rest,
        fewer,
      ),
      (
        context_less w context (choices_left forms rest) (choices_left [] c.args.more.now)
            (omega (arith, ap (sum_by length) more_is, sum_by-cons length next rest, fewer))
            c.requires.context,
        choosing_start w edges bounds (ready_of c.args.graph.now) context
            (length c.args.choices.now + 1) forms rest c.in_ok-first.first c.as_slice-chosen.result.now
            (ap length (c.as_slice-chosen.ensures ∙ c.in_ok-all.ensures)
            ∙ length_push c.args.choices.now c.args.choice.now)
            n.inside (c.as_slice-next.ensures ∙ n.forms) n.others c.in_ok-first.ensures.edge
            c.in_ok-first.ensures.empty
            (choosing_end w edges bounds (ready_of c.args.graph.now) context
            (next ∷ rest) c.args.choice.now c.args.choices.now c.as_slice-chosen.result.now
            (c.as_slice-chosen.ensures ∙ c.in_ok-all.ensures) h),
      ),
    )

pub choose_next-returns : goal.choose_next-returns
choose_next-returns t c =
    let next = c.in-Some.next.now in
    let rest = c.in-Some.more.now in
    let more_is : c.args.more.now ≡ next ∷ rest = search rules in
    let fewer = ap length c.as_slice-next.ensures in
    IfOk-weaker c.choose.result _ _
    (λ tree h. answer_wider c.args.graph.now.writes c.args.context.now (choices_left c.as_slice-next.result.now rest)
    (choices_left [] c.args.more.now) tree
    (omega (arith, ap (sum_by length) more_is, sum_by-cons length next rest, fewer)) h) c.choose.ensures

-- What follows a choice

pub follow-choose-requires : goal.follow-choose-requires
follow-choose-requires t c =
    let w = c.args.graph.now.writes in
    let edges = c.args.graph.now.edges.now in
    let bounds = c.args.graph.now.bounds.now in
    let context = c.args.context.now in
    let forms = c.args.forms.now in
    let more = c.args.more.now in
    let s = c.requires.step in
    let follows = subst (IsChoiceStep context s.form s.choice) c.in-Known.is s.follows in (
      omega arith,
      (
        context_less w context (choices_left forms more) (choices_left forms more + 1) (omega arith)
            c.requires.context,
        choosing_step w edges bounds (ready_of c.args.graph.now) context context s.form forms more s.choice
            c.in-Known.next
            c.args.choices.now s.choosing follows s.choosing.chosen,
      ),
    )

pub follow-returns-in-Known : goal.follow-returns-in-Known
follow-returns-in-Known t c =
    let n = choices_left c.args.forms.now c.args.more.now in
    IfOk-weaker c.choose.result _ _
    (λ tree h. answer_wider c.args.graph.now.writes c.args.context.now n (n + 1) tree (omega arith) h) c.choose.ensures

-- A Test

pub follow-opposite-row-requires : goal.follow-opposite-row-requires
follow-opposite-row-requires t c =
    let s = c.requires.step in
    let told = subst (IsChoiceStep c.args.context.now s.form s.choice) c.in-Either.is s.follows in
    IsWithin-weaker (2 ^ 34 + 2 ^ 40) (2 ^ 60) c.in-Either.above (omega arith) told.within

pub follow-choose_with-requires : goal.follow-choose_with-requires
follow-choose_with-requires t c =
    let w = c.args.graph.now.writes in
    let edges = c.args.graph.now.edges.now in
    let bounds = c.args.graph.now.bounds.now in
    let context = c.args.context.now in
    let forms = c.args.forms.now in
    let more = c.args.more.now in
    let choices = c.args.choices.now in
    let above = c.in-Either.above in
    let row = c.opposite-row.result in
    let s = c.requires.step in
    let told = subst (IsChoiceStep context s.form s.choice) c.in-Either.is s.follows in
    let row_is = negation_of-some (2 ^ 34 + 2 ^ 40) above row (omega arith) told.within c.opposite-row.ensures in (
      omega arith,
      (
        context_more w (choices_left forms more) (choices_left forms more + 1) context (with_form context row) row
            refl
            (ap (λ (f : Form). length f.coefs) row_is ∙ opposite_long above ∙ told.over ∙ c.requires.context.vars)
            (subst (IsWithin (2 ^ 41)) (sym row_is)
            (opposite_small (2 ^ 34 + 2 ^ 40) above (omega arith) told.within))
            (omega arith) c.requires.context,
        choosing_step w edges bounds (ready_of c.args.graph.now) context (with_form context row) s.form forms more
            s.choice
            c.in-Either.other choices s.choosing
            (told.below (with_form context row) row c.opposite-row.ensures refl)
            (choices_behind (depth_of_write w) bounds edges context (with_form context row) 0 choices row refl
            s.choosing.chosen),
      ),
    )

pub follow-choose_with-requires-in-Either : goal.follow-choose_with-requires-in-Either
follow-choose_with-requires-in-Either t c =
    let w = c.args.graph.now.writes in
    let edges = c.args.graph.now.edges.now in
    let bounds = c.args.graph.now.bounds.now in
    let context = c.args.context.now in
    let forms = c.args.forms.now in
    let more = c.args.more.now in
    let choices = c.args.choices.now in
    let above = c.in-Either.above in
    let row = c.copy-row.result in
    let s = c.requires.step in
    let told = subst (IsChoiceStep context s.form s.choice) c.in-Either.is s.follows in
    let least_is = ap (with_form context) c.copy-row.ensures in (
      omega arith,
      (
        context_more w (choices_left forms more) (choices_left forms more + 1) context (with_form context row) above
            least_is (told.over ∙ c.requires.context.vars)
            (IsWithin-weaker (2 ^ 34 + 2 ^ 40) (2 ^ 41) above (omega arith) told.within) (omega arith)
            c.requires.context,
        choosing_step w edges bounds (ready_of c.args.graph.now) context (with_form context row) s.form forms more
            s.choice
            c.in-Either.same choices s.choosing (told.least (with_form context row) least_is)
            (choices_behind (depth_of_write w) bounds edges context (with_form context row) 0 choices above least_is
            s.choosing.chosen),
      ),
    )

pub follow-returns-in-Ok : goal.follow-returns-in-Ok
follow-returns-in-Ok t c =
    let w = c.args.graph.now.writes in
    let context = c.args.context.now in
    let above = c.in-Either.above in
    let s = c.requires.step in
    let told = subst (IsChoiceStep context s.form s.choice) c.in-Either.is s.follows in
    let yes = c.in-Ok.yes in
    let no = c.in_ok-no-in-Either.no in
    let least = with_form context c.copy-row.result in
    let n = choices_left c.args.forms.now c.args.more.now in
    let least_is = subst (λ r. IfOk r (IsAnswer w least n)) c.in-Ok.is c.choose_with-in-Either.ensures in
    IfOk-weaker c.test.result _ _
    (λ tree is.
    answer_test w context least (with_form context c.opposite-row.result) above c.opposite-row.result n yes no tree
    (is ∙ ap (λ f. Test f yes no) c.copy.ensures) (told.over ∙ c.requires.context.vars)
    (IsWithin-weaker (2 ^ 34 + 2 ^ 40) (2 ^ 48) above (omega arith) told.within) c.opposite-row.ensures
    (ap (with_form context) c.copy-row.ensures) refl least_is c.in_ok-no-in-Either.ensures) c.test.ensures

pub choose_with-choose-requires : goal.choose_with-choose-requires
choose_with-choose-requires t c =
    let w = c.args.graph.now.writes in
    let forms = c.args.forms.now in
    let more = c.args.more.now in (
      omega arith,
      (
        subst (IsContextOf w (choices_left forms more)) (sym c.in_ok-longer.ensures) c.requires.context,
        subst (λ s. IsChoosing (depth_of_write w) c.args.graph.now.bounds.now c.args.graph.now.edges.now s forms more
            c.args.choice.now c.args.choices.now) (sym c.in_ok-longer.ensures) c.requires.choosing,
      ),
    )

pub choose_with-returns : goal.choose_with-returns
choose_with-returns t c =
    let n = choices_left c.args.forms.now c.args.more.now in
    IfOk-weaker c.choose.result _ _
    (λ tree h. subst (λ s. IsAnswer c.args.graph.now.writes s n tree) c.in_ok-longer.ensures h) c.choose.ensures
