use Rattle.std.proofs.Common.{◌≡◌, ◌∷◌, [], length, refl, sym, ap, ◌∙◌, subst, arith, rules}
use Rattle.std.proofs.lemmas.List.{nil_from_length}
use Rattle.std.proofs.lemmas.Result.{IfOk-weaker}
use Rattle.lex_max.specs.Choices.{choices_left}
use Rattle.lex_max.specs.ChoiceSteps.{AreSmallForms}
use Rattle.lex_max.proofs.ChoiceForms.{small_uppers}
use Rattle.lex_max.proofs.DecisionContexts.{choosing_start, context_is, few_tests, few_uppers, next_first, none_chosen}
use Rattle.lex_max.proofs.DecisionContexts.{some_upper}
use Rattle.tree_graphs.proofs.ProblemBounds.{writes_fit}
use Rattle.lex_max.proofs.ZeroLeaves.{answer_wider, context_less}
use Rattle.lex_max.proofs.Ready.{ready_of}
use Rattle.lex_max.proofs.decide.choose_all.Goals as goal

pub confirm_all-requires-clause-context : goal.confirm_all-requires-clause-context
confirm_all-requires-clause-context c = context_less c.args.graph.now.writes c.args.context.now
    (length c.args.graph.now.edges.now) 392 (omega (arith, c.args.graph.now.graph.graph.few)) c.requires

pub confirm_all-requires-clause-chosen : goal.confirm_all-requires-clause-chosen
confirm_all-requires-clause-chosen c =
    let none : c.as_slice.result.now ≡ [] = nil_from_length c.as_slice.result.now c.in_default.ensures.cases in
    none_chosen c.args.graph.now.writes c.args.graph.now.edges.now c.args.graph.now.bounds.now
    (ready_of c.args.graph.now) c.args.context.now
    [] (sym none ∙ c.as_slice.ensures ∙ c.in_ok-all.ensures) refl

pub returns-in_default : goal.returns-in_default
returns-in_default c =
    IfOk-weaker c.confirm_all.result _ _
    (λ tree h. answer_wider c.args.graph.now.writes c.args.context.now (length c.args.graph.now.edges.now) 392 tree
    (omega (arith, c.args.graph.now.graph.graph.few)) h) c.confirm_all.ensures

pub invariant_of-here : goal.invariant_of-here
invariant_of-here c =
    record { fits = context_is c.args.graph.now.writes 392 c.args.context.now c.requires }

pub start-requires-clause-forms : goal.start-requires-clause-forms
start-requires-clause-forms c =
    let w = c.args.graph.now.writes in
    let edges = c.args.graph.now.edges.now in
    let bounds = c.args.graph.now.bounds.now in
    let all : c.as_slice.result.now ≡ c.in-Some.forms.now ∷ c.in-Some.more.now = search rules in
    let n = next_first w edges bounds (ready_of c.args.graph.now) c.in-Some.forms.now c.in-Some.more.now
    (sym all ∙ c.as_slice.ensures ∙ c.in_ok-all.ensures) in
    subst (λ v. AreSmallForms v c.as_slice-forms.result.now) (sym c.requires.vars)
    (small_uppers w edges bounds (ready_of c.args.graph.now) 0 c.as_slice-forms.result.now (c.as_slice-forms.ensures
    ∙ n.forms))

pub start-requires-clause-few : goal.start-requires-clause-few
start-requires-clause-few c =
    let all : c.as_slice.result.now ≡ c.in-Some.forms.now ∷ c.in-Some.more.now = search rules in
    let n = next_first c.args.graph.now.writes c.args.graph.now.edges.now c.args.graph.now.bounds.now
    (ready_of c.args.graph.now)
    c.in-Some.forms.now c.in-Some.more.now (sym all ∙ c.as_slice.ensures ∙ c.in_ok-all.ensures) in
    few_uppers c.args.graph.now.writes c.args.graph.now.edges.now c.args.graph.now.bounds.now
    (ready_of c.args.graph.now) 0
    c.as_slice-forms.result.now (c.as_slice-forms.ensures ∙ n.forms)

pub start-requires-clause-some : goal.start-requires-clause-some
start-requires-clause-some c =
    let all : c.as_slice.result.now ≡ c.in-Some.forms.now ∷ c.in-Some.more.now = search rules in
    let n = next_first c.args.graph.now.writes c.args.graph.now.edges.now c.args.graph.now.bounds.now
    (ready_of c.args.graph.now)
    c.in-Some.forms.now c.in-Some.more.now (sym all ∙ c.as_slice.ensures ∙ c.in_ok-all.ensures) in
    some_upper c.args.graph.now.writes c.args.graph.now.edges.now c.args.graph.now.bounds.now
    (ready_of c.args.graph.now) 0
    c.as_slice-forms.result.now n.inside (c.as_slice-forms.ensures ∙ n.forms)

pub choose-requires-clause-context : goal.choose-requires-clause-context
choose-requires-clause-context c =
    let w = c.args.graph.now.writes in
    let all : c.as_slice.result.now ≡ c.in-Some.forms.now ∷ c.in-Some.more.now = search rules in
    let n = few_tests w c.args.graph.now.edges.now c.args.graph.now.bounds.now (ready_of c.args.graph.now)
    c.in-Some.forms.now
    c.in-Some.more.now (sym all ∙ c.as_slice.ensures ∙ c.in_ok-all.ensures)
    (writes_fit w).few_loops in
    context_less w c.args.context.now (choices_left c.as_slice-forms.result.now c.in-Some.more.now) 392
    (omega (arith, n, ap length c.as_slice-forms.ensures)) c.requires

pub choose-requires-clause-choosing : goal.choose-requires-clause-choosing
choose-requires-clause-choosing c =
    let w = c.args.graph.now.writes in
    let edges = c.args.graph.now.edges.now in
    let bounds = c.args.graph.now.bounds.now in
    let all : c.as_slice.result.now ≡ c.in-Some.forms.now ∷ c.in-Some.more.now = search rules in
    let n = next_first w edges bounds (ready_of c.args.graph.now) c.in-Some.forms.now c.in-Some.more.now
    (sym all ∙ c.as_slice.ensures ∙ c.in_ok-all.ensures) in
    choosing_start w edges bounds (ready_of c.args.graph.now) c.args.context.now 0 c.as_slice-forms.result.now
    c.in-Some.more.now
    c.in_ok-first.first [] refl n.inside
    (c.as_slice-forms.ensures ∙ n.forms) n.others c.in_ok-first.ensures.edge c.in_ok-first.ensures.empty tt

pub returns : goal.returns
returns c =
    let w = c.args.graph.now.writes in
    let all : c.as_slice.result.now ≡ c.in-Some.forms.now ∷ c.in-Some.more.now = search rules in
    let n = few_tests w c.args.graph.now.edges.now c.args.graph.now.bounds.now (ready_of c.args.graph.now)
    c.in-Some.forms.now
    c.in-Some.more.now (sym all ∙ c.as_slice.ensures ∙ c.in_ok-all.ensures)
    (writes_fit w).few_loops in
    IfOk-weaker c.choose.result _ _
    (λ tree h. answer_wider w c.args.context.now (choices_left c.as_slice-forms.result.now c.in-Some.more.now) 392 tree
    (omega (arith, n, ap length c.as_slice-forms.ensures)) h) c.choose.ensures
