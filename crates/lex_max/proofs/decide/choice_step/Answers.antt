use Rattle.std.proofs.Common.{◌≡◌, sym, ◌∙◌, subst, rules}
use Rattle.std.specs.Prelude.{Some, None, IfSome}
use Rattle.lex_max.specs.ChoiceSteps.{AreEither, IsSmallForm}
use Rattle.lex_max.specs.Choices.{IsNextChoice}
use Rattle.lex_max.proofs.DecisionContexts.{next_none}
use Rattle.lex_max.proofs.ChoiceForms.{form_small, is_above}
use Rattle.lex_max.proofs.decide.choice_step.Goals as goal

pub returns-in_default : goal.returns-in_default
returns-in_default c =
    let context = c.args.context.now.system.now in
    let choice = c.args.choice.now in
    let next = c.in_ok-next.next in
    let none : c.args.form.now ≡ None = search rules in
    subst (λ o. IsNextChoice context context o choice next) (sym none)
    (next_none context choice next c.in_ok-next.ensures)

pub difference-above-requires-clause-over : goal.difference-above-requires-clause-over
difference-above-requires-clause-over c =
    let is : c.args.form.now ≡ Some c.in-Some.form = search rules in
    let f = subst (λ o. IfSome o (IsSmallForm c.args.context.now.system.now.vars)) is c.requires.form in
    f.over ∙ sym c.requires.chosen.over

pub difference-above-requires-clause-first : goal.difference-above-requires-clause-first
difference-above-requires-clause-first c =
    let is : c.args.form.now ≡ Some c.in-Some.form = search rules in
    let f = subst (λ o. IfSome o (IsSmallForm c.args.context.now.system.now.vars)) is c.requires.form in
    form_small c.args.context.now.system.now.vars c.in-Some.form f

pub difference-above-requires-clause-second : goal.difference-above-requires-clause-second
difference-above-requires-clause-second c =
    form_small c.args.context.now.system.now.vars c.args.choice.now.form c.requires.chosen

pub next_choice-requires-clause-over : goal.next_choice-requires-clause-over
next_choice-requires-clause-over c =
    let is : c.args.form.now ≡ Some c.in-Some.form = search rules in
    let f = subst (λ o. IfSome o (IsSmallForm c.args.context.now.system.now.vars)) is c.requires.form in
    (is_above c.args.context.now.system.now.vars c.in-Some.form c.args.choice.now.form c.difference-above.result f
    c.requires.chosen c.difference-above.ensures).over

pub next_choice-requires-clause-small : goal.next_choice-requires-clause-small
next_choice-requires-clause-small c =
    let is : c.args.form.now ≡ Some c.in-Some.form = search rules in
    let f = subst (λ o. IfSome o (IsSmallForm c.args.context.now.system.now.vars)) is c.requires.form in
    (is_above c.args.context.now.system.now.vars c.in-Some.form c.args.choice.now.form c.difference-above.result f
    c.requires.chosen c.difference-above.ensures).small

pub next_choice-requires-clause-parts : goal.next_choice-requires-clause-parts
next_choice-requires-clause-parts c =
    let is : c.args.form.now ≡ Some c.in-Some.form = search rules in
    let f = subst (λ o. IfSome o (IsSmallForm c.args.context.now.system.now.vars)) is c.requires.form in
    (is_above c.args.context.now.system.now.vars c.in-Some.form c.args.choice.now.form c.difference-above.result f
    c.requires.chosen c.difference-above.ensures).parts

pub returns-in-Some-looked : goal.returns-in-Some-looked
returns-in-Some-looked c =
    let context = c.args.context.now.system.now in
    let choice = c.args.choice.now in
    let form = c.in-Some.form in
    let is : c.args.form.now ≡ Some form = search rules in
    let follows = subst (λ o. IfSome o (IsNextChoice context context (Some form) choice)) c.in-Some-looked.is
    c.in_ok-looked.ensures in
    subst (λ o. IsNextChoice context context o choice c.in-Some-looked.next) (sym is) follows

pub same_choice-requires : goal.same_choice-requires
same_choice-requires c =
    let is : c.args.form.now ≡ Some c.in-Some.form = search rules in
    let f = subst (λ o. IfSome o (IsSmallForm c.args.context.now.system.now.vars)) is c.requires.form in
    (is_above c.args.context.now.system.now.vars c.in-Some.form c.args.choice.now.form c.difference-above.result f
    c.requires.chosen c.difference-above.ensures).parts

pub other_choice-requires-clause-small : goal.other_choice-requires-clause-small
other_choice-requires-clause-small c =
    let is : c.args.form.now ≡ Some c.in-Some.form = search rules in
    let f = subst (λ o. IfSome o (IsSmallForm c.args.context.now.system.now.vars)) is c.requires.form in
    (is_above c.args.context.now.system.now.vars c.in-Some.form c.args.choice.now.form c.difference-above.result f
    c.requires.chosen c.difference-above.ensures).small

pub other_choice-requires-clause-parts : goal.other_choice-requires-clause-parts
other_choice-requires-clause-parts c =
    let is : c.args.form.now ≡ Some c.in-Some.form = search rules in
    let f = subst (λ o. IfSome o (IsSmallForm c.args.context.now.system.now.vars)) is c.requires.form in
    (is_above c.args.context.now.system.now.vars c.in-Some.form c.args.choice.now.form c.difference-above.result f
    c.requires.chosen c.difference-above.ensures).parts

pub returns : goal.returns
returns c =
    let context = c.args.context.now.system.now in
    let choice = c.args.choice.now in
    let form = c.in-Some.form in
    let above = c.difference-above.result in
    let is : c.args.form.now ≡ Some form = search rules in
    let f = subst (λ o. IfSome o (IsSmallForm context.vars)) is c.requires.form in
    let a = is_above context.vars form choice.form above f c.requires.chosen c.difference-above.ensures in
    let either : AreEither context (Some form) choice above c.in_ok-same.same c.in_ok-other.other =
    record { over = a.over; within = a.within; least = c.in_ok-same.ensures; below = c.in_ok-other.ensures } in
    subst (λ o. AreEither context o choice above c.in_ok-same.same c.in_ok-other.other) (sym is) either
