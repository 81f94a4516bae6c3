use Rattle.std.proofs.Common.{◌≡◌, ◌+◌, ◌^◌, ◌++◌, ◌∷◌, [], ℕ, length, sym, ap, ◌∙◌, subst, arith}
use Rattle.std.proofs.Common.{rules}
use Rattle.std.specs.Prelude.{All, IfSome}
use Rattle.std.proofs.lemmas.List.Elements.{All-head, All-tail}
use Rattle.std.proofs.lemmas.Result.{IfOk-weaker}
use Rattle.affine_core.specs.declared.form.Form.{Form}
use Rattle.lex_max.specs.Answer.{IsAnswer}
use Rattle.tree_graphs.specs.Cycles.{IsCycle}
use Rattle.lex_max.proofs.DecisionContexts.{context_is, context_more}
use Rattle.lex_max.proofs.ZeroLeaves.{answer_wider, context_less}
use Rattle.lex_max.proofs.decide.+conditions.Goals as goal
use Rattle.tree_sums.proofs.Within.{IsWithin-weaker}

pub conditions-choose_all-requires : goal.conditions-choose_all-requires
conditions-choose_all-requires t c =
    context_less c.args.graph.now.writes c.args.context.now 392 (length c.args.cycles.now + 392)
    (omega arith) c.requires.context

pub conditions-returns-in_default : goal.conditions-returns-in_default
conditions-returns-in_default t c =
    IfOk-weaker c.choose_all.result _ _
    (λ tree h. answer_wider c.args.graph.now.writes c.args.context.now 392 (length c.args.cycles.now + 392) tree
    (omega arith) h)
    c.choose_all.ensures

pub conditions-invariant_of-here : goal.conditions-invariant_of-here
conditions-invariant_of-here t c = record {
  fits = context_is c.args.graph.now.writes
      (length c.args.cycles.now + 392) c.args.context.now c.requires.context;
}

pub conditions-is_known-requires : goal.conditions-is_known-requires
conditions-is_known-requires t c =
    let P = IsCycle c.args.graph.now.writes.vars c.args.graph.now.edges.now in
    let first : c.args.cycles.now ≡ c.in-Some.cycle.now ∷ c.in-Some.rest.now = search rules in
    let one = All-head P c.in-Some.cycle.now c.in-Some.rest.now (subst (All P) first c.requires.cycles) in
    one.over ∙ sym c.requires.context.vars

pub conditions-conditions-requires : goal.conditions-conditions-requires
conditions-conditions-requires t c =
    let P = IsCycle c.args.graph.now.writes.vars c.args.graph.now.edges.now in
    let first : c.args.cycles.now ≡ c.in-Some.cycle.now ∷ c.in-Some.rest.now = search rules in
    let all = subst (All P) first c.requires.cycles in (
      omega (arith, ap length first),
      (
        context_less c.args.graph.now.writes c.args.context.now (length c.in-Some.rest.now + 392)
            (length c.args.cycles.now + 392) (omega (arith, ap length first)) c.requires.context,
        All-tail P c.in-Some.cycle.now c.in-Some.rest.now all,
      ),
    )

pub conditions-returns-then-branch : goal.conditions-returns-then-branch
conditions-returns-then-branch t c =
    let first : c.args.cycles.now ≡ c.in-Some.cycle.now ∷ c.in-Some.rest.now = search rules in
    IfOk-weaker c.conditions.result _ _
    (λ tree h. answer_wider c.args.graph.now.writes c.args.context.now (length c.in-Some.rest.now + 392)
    (length c.args.cycles.now + 392) tree (omega (arith, ap length first)) h) c.conditions.ensures

pub conditions-refuted_leaf-requires-clause-context : goal.conditions-refuted_leaf-requires-clause-context
conditions-refuted_leaf-requires-clause-context t c =
    context_less c.args.graph.now.writes c.args.context.now 0 (length c.args.cycles.now + 392)
    (omega arith) c.requires.context

pub conditions-refuted_leaf-requires-clause-cycles : goal.conditions-refuted_leaf-requires-clause-cycles
conditions-refuted_leaf-requires-clause-cycles t c = c.requires.cycles

pub conditions-returns-in-Some-2 : goal.conditions-returns-in-Some-2
conditions-returns-in-Some-2 t c =
    let h = subst (λ o. IfSome o (λ tree. (tests : ℕ) → IsAnswer c.args.graph.now.writes c.args.context.now tests tree))
    c.in-Some-2.is c.in_ok-leaf.ensures in
    h (length c.args.cycles.now + 392)

pub conditions-condition-requires : goal.conditions-condition-requires
conditions-condition-requires t c =
    let P = IsCycle c.args.graph.now.writes.vars c.args.graph.now.edges.now in
    let first : c.args.cycles.now ≡ c.in-Some.cycle.now ∷ c.in-Some.rest.now = search rules in
    let all = subst (All P) first c.requires.cycles in (
      omega (arith, ap length first),
      (
        context_less c.args.graph.now.writes c.args.context.now (length c.in-Some.rest.now + 393)
            (length c.args.cycles.now + 392) (omega (arith, ap length first)) c.requires.context,
        (
          All-head P c.in-Some.cycle.now c.in-Some.rest.now all,
          All-tail P c.in-Some.cycle.now c.in-Some.rest.now all,
        ),
      ),
    )

pub conditions-returns-in-None : goal.conditions-returns-in-None
conditions-returns-in-None t c =
    let first : c.args.cycles.now ≡ c.in-Some.cycle.now ∷ c.in-Some.rest.now = search rules in
    IfOk-weaker c.condition.result _ _
    (λ tree h. answer_wider c.args.graph.now.writes c.args.context.now (length c.in-Some.rest.now + 393)
    (length c.args.cycles.now + 392) tree (omega (arith, ap length first)) h) c.condition.ensures

-- A Test

pub condition-is_told-requires-clause-context : goal.condition-is_told-requires-clause-context
condition-is_told-requires-clause-context t c = context_less c.args.graph.now.writes c.args.context.now
    (length c.args.rest.now)
    (length c.args.rest.now + 393) (omega arith) c.requires.context

pub condition-is_told-requires-clause-cycles : goal.condition-is_told-requires-clause-cycles
condition-is_told-requires-clause-cycles t c = c.requires.rest

pub condition-is_told-requires-clause-over : goal.condition-is_told-requires-clause-over
condition-is_told-requires-clause-over t c = c.requires.cycle.over

pub condition-conditions-requires : goal.condition-conditions-requires
condition-conditions-requires t c = (
  omega arith,
  (
    context_less c.args.graph.now.writes c.args.context.now (length c.args.rest.now + 392)
        (length c.args.rest.now + 393) (omega arith) c.requires.context,
    c.requires.rest,
  ),
)

pub condition-returns-then-branch : goal.condition-returns-then-branch
condition-returns-then-branch t c = IfOk-weaker c.conditions.result _ _
    (λ tree h. answer_wider c.args.graph.now.writes c.args.context.now (length c.args.rest.now + 392)
    (length c.args.rest.now + 393) tree (omega arith) h) c.conditions.ensures

pub condition-conditions-requires-2 : goal.condition-conditions-requires-2
condition-conditions-requires-2 t c =
    let w = c.args.graph.now.writes in
    let context = c.args.context.now in
    let cycle = c.args.cycle.now in
    let rest = c.args.rest.now in
    let one = c.requires.cycle in
    let above_is = c.in_ok-above.ensures
    ∙ ap (λ (f : Form). record context { rows = context.rows ++ f ∷ [] }) c.copy.ensures in (
      omega arith,
      (
        context_more w (length rest + 392) (length rest + 393) context c.in_ok-above.above cycle.form
            above_is one.over (IsWithin-weaker (2 ^ 40) (2 ^ 41) cycle.form (omega arith) one.within)
            (omega arith) c.requires.context,
        c.requires.rest,
      ),
    )

pub condition-cycle_test-requires-clause-context : goal.condition-cycle_test-requires-clause-context
condition-cycle_test-requires-clause-context t c =
    context_less c.args.graph.now.writes c.args.context.now 1 (length c.args.rest.now + 393)
    (omega arith) c.requires.context

pub condition-cycle_test-requires-clause-cycle : goal.condition-cycle_test-requires-clause-cycle
condition-cycle_test-requires-clause-cycle t c =
    c.requires.cycle

pub condition-returns : goal.condition-returns
condition-returns t c =
    let context = c.args.context.now in
    let n = length c.args.rest.now + 392 in
    let above_is = c.in_ok-above.ensures
    ∙ ap (λ (f : Form). record context { rows = context.rows ++ f ∷ [] }) c.copy.ensures in
    IfOk-weaker c.cycle_test.result _ _
    (λ tree h. answer_wider c.args.graph.now.writes context (n + 1) (length c.args.rest.now + 393) tree (omega arith)
    (h c.in_ok-above.above n above_is c.in_ok-yes.ensures)) c.cycle_test.ensures
