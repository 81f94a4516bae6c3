use Rattle.std.proofs.Common.{ℕ, sym, ◌∙◌, subst}
use Rattle.std.specs.Prelude.{IfSome}
use Rattle.lex_max.specs.Answer.{IsAnswer}
use Rattle.tree_graphs.specs.Facts.{form_parts, IsFact}
use Rattle.lex_max.proofs.DecisionContexts.{context_is, cycle_fact}
use Rattle.lex_max.proofs.decide.cycle_state.Goals as goal

pub invariant_of-here : goal.invariant_of-here
invariant_of-here c =
    record { fits = context_is c.args.graph.now.writes 0 c.args.context.now c.requires.context }

pub known-requires : goal.known-requires
known-requires c = c.requires.cycle.over ∙ sym c.requires.context.vars

pub returns-in-Some : goal.returns-in-Some
returns-in-Some c = λ place edge parts.
    let form = c.args.cycle.now.form in
    let told = subst (λ o. IfSome o (IsFact c.args.context.now 65536 (form_parts form))) c.in-Some.is
    c.in_ok-terms.ensures.some in
    cycle_fact c.args.context.now place edge form c.in-Some.terms parts told

pub returns-in-Some-2 : goal.returns-in-Some-2
returns-in-Some-2 c = λ place edge parts.
    subst (λ o. IfSome o (λ tree. (tests : ℕ) → IsAnswer c.args.graph.now.writes c.args.context.now tests tree))
    c.in-Some-2.is c.in_ok-leaf-in-None.ensures
