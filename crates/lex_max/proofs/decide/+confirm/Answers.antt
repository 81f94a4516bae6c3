use Rattle.std.proofs.Common.{◌≡◌, ◌+◌, ◌^◌, ◌++◌, ◌∷◌, [], length, sym, ap, ◌∙◌, subst, arith, rules}
use Rattle.std.specs.Prelude.{Some, slice_get}
use Rattle.std.proofs.lemmas.List.{nil_from_length}
use Rattle.std.proofs.lemmas.Result.{IfOk-weaker}
use Rattle.affine_core.specs.declared.form.Form.{Form}
use Rattle.lex_max.specs.Choices.{chosen_place, AreCerts, AreCertsSoFar}
use Rattle.lex_max.specs.EdgeStates.{IsEdgeState}
use Rattle.lex_max.proofs.DecisionContexts.{certs_all, certs_at, certs_more, certs_next, chosen_more, context_more, cycle_fact}
use Rattle.lex_max.proofs.DecisionContexts.{own_fact}
use Rattle.lex_max.proofs.ZeroLeaves.{answer_wider, context_less}
use Rattle.lex_max.proofs.decide.+confirm.Goals as goal
use Rattle.tree_sums.proofs.Within.{IsWithin-weaker}

-- All edges are shown

pub confirm-writer_leaf-requires-clause-context : goal.confirm-writer_leaf-requires-clause-context
confirm-writer_leaf-requires-clause-context t c =
    context_less c.args.graph.now.writes c.args.context.now 0 (length c.args.edges.now) (omega arith) c.requires.context

pub confirm-writer_leaf-requires-clause-certs : goal.confirm-writer_leaf-requires-clause-certs
confirm-writer_leaf-requires-clause-certs t c =
    let context = c.args.context.now in
    let edges = c.args.graph.now.edges.now in
    let place = chosen_place c.args.choices.now in
    let none : c.args.edges.now ≡ [] = nil_from_length c.args.edges.now c.in_default.ensures.cases in
    let all = certs_all context place edges c.args.certs.now
    (subst (λ rest. AreCertsSoFar context place edges rest c.args.certs.now) none c.requires.certs) in
    subst (AreCerts context place edges) (sym c.as_slice.ensures) all

pub confirm-returns-in_default : goal.confirm-returns-in_default
confirm-returns-in_default t c =
    IfOk-weaker c.writer_leaf.result _ _ (λ tree h. h (length c.args.edges.now)) c.writer_leaf.ensures

-- The next edge

pub confirm-edge_state-requires-clause-context : goal.confirm-edge_state-requires-clause-context
confirm-edge_state-requires-clause-context t c =
    context_less c.args.graph.now.writes c.args.context.now 0 (length c.args.edges.now) (omega arith) c.requires.context

pub confirm-edge_state-requires-clause-edge : goal.confirm-edge_state-requires-clause-edge
confirm-edge_state-requires-clause-edge t c =
    let edges = c.args.graph.now.edges.now in
    let context = c.args.context.now in
    let place = chosen_place c.args.choices.now in
    let g = c.in-Some.edge.now in
    let rest = c.in-Some.edges.now in
    let first : c.args.edges.now ≡ g ∷ rest = search rules in
    let so_far = subst (λ rest. AreCertsSoFar context place edges rest c.args.certs.now) first c.requires.certs in
    subst (λ n. slice_get edges n ≡ Some g) (sym c.len.ensures)
    (certs_at context place edges rest g c.args.certs.now so_far)

pub confirm-confirm-requires : goal.confirm-confirm-requires
confirm-confirm-requires t c =
    let w = c.args.graph.now.writes in
    let edges = c.args.graph.now.edges.now in
    let context = c.args.context.now in
    let place = chosen_place c.args.choices.now in
    let g = c.in-Some.edge.now in
    let rest = c.in-Some.edges.now in
    let terms = c.in-Shown.terms in
    let first : c.args.edges.now ≡ g ∷ rest = search rules in
    let so_far = subst (λ rest. AreCertsSoFar context place edges rest c.args.certs.now) first c.requires.certs in
    let told = subst (IsEdgeState w edges context place g) c.in-Shown.is c.in_ok-state.ensures in (
      omega (arith, ap length first),
      (
        context_less w context (length rest) (length c.args.edges.now) (omega (arith, ap length first))
            c.requires.context,
        (
          c.requires.chosen,
          certs_next context place edges rest g c.args.certs.now c.push.new.self terms
              c.in_ok-push-in-Shown.ensures.ok told so_far,
        ),
      ),
    )

pub confirm-returns-in_ok-push-in-Shown : goal.confirm-returns-in_ok-push-in-Shown
confirm-returns-in_ok-push-in-Shown t c =
    let first : c.args.edges.now ≡ c.in-Some.edge.now ∷ c.in-Some.edges.now = search rules in
    IfOk-weaker c.confirm.result _ _
    (λ tree h. answer_wider c.args.graph.now.writes c.args.context.now (length c.in-Some.edges.now)
    (length c.args.edges.now) tree
    (omega (arith, ap length first)) h) c.confirm.ensures

pub confirm-returns-in-Refuted : goal.confirm-returns-in-Refuted
confirm-returns-in-Refuted t c =
    let told = subst (IsEdgeState c.args.graph.now.writes c.args.graph.now.edges.now c.args.context.now
    (chosen_place c.args.choices.now) c.in-Some.edge.now) c.in-Refuted.is c.in_ok-state.ensures in
    told (length c.args.edges.now)

-- A Test

pub confirm-confirm_above-tree-requires : goal.confirm-confirm_above-tree-requires
confirm-confirm_above-tree-requires t c =
    let w = c.args.graph.now.writes in
    let edges = c.args.graph.now.edges.now in
    let context = c.args.context.now in
    let place = chosen_place c.args.choices.now in
    let g = c.in-Some.edge.now in
    let rest = c.in-Some.edges.now in
    let first : c.args.edges.now ≡ g ∷ rest = search rules in
    let so_far = subst (λ rest. AreCertsSoFar context place edges rest c.args.certs.now) first c.requires.certs in
    let told = subst (IsEdgeState w edges context place g) c.in-Open.is c.in_ok-state.ensures in (
      omega (arith, ap length first),
      (
        context_less w context (length rest + 1) (length c.args.edges.now) (omega (arith, ap length first))
            c.requires.context,
        (c.requires.chosen, (told.0, (g, so_far, told.1))),
      ),
    )

pub confirm-returns-in-Open : goal.confirm-returns-in-Open
confirm-returns-in-Open t c =
    let first : c.args.edges.now ≡ c.in-Some.edge.now ∷ c.in-Some.edges.now = search rules in
    IfOk-weaker c.confirm_above-tree.result _ _
    (λ tree h. answer_wider c.args.graph.now.writes c.args.context.now (length c.in-Some.edges.now + 1)
    (length c.args.edges.now)
    tree (omega (arith, ap length first)) h) c.confirm_above-tree.ensures

pub confirm_above-confirm-requires : goal.confirm_above-confirm-requires
confirm_above-confirm-requires t c =
    let w = c.args.graph.now.writes in
    let edges = c.args.graph.now.edges.now in
    let bounds = c.args.graph.now.bounds.now in
    let context = c.args.context.now in
    let choices = c.args.choices.now in
    let place = chosen_place choices in
    let g = c.requires.certs.0 in
    let rest = c.args.edges.now in
    let form = c.args.cycle.now.form in
    let above = c.in_ok-above.above in
    let own = c.in_ok-own.own in
    let above_is = c.in_ok-above.ensures
    ∙ ap (λ (f : Form). record context { rows = context.rows ++ f ∷ [] }) c.copy.ensures in
    let fact = cycle_fact above place g form own c.requires.certs.2
    (own_fact context above form own c.len.result above_is c.len.ensures c.in_ok-own.ensures)
    in (
      omega arith,
      (
        context_more w (length rest) (length rest + 1) context above form above_is c.requires.cycle.over
            (IsWithin-weaker (2 ^ 40) (2 ^ 41) form (omega arith) c.requires.cycle.within) (omega arith)
            c.requires.context,
        (
          chosen_more w edges bounds context above form choices above_is c.requires.chosen,
          certs_next above place edges rest g c.args.certs.now c.push.new.self own
              c.in_ok-push.ensures.ok fact
              (certs_more context above place form edges (g ∷ rest) c.args.certs.now above_is c.requires.certs.1),
        ),
      ),
    )

pub confirm_above-cycle_test-requires-clause-context : goal.confirm_above-cycle_test-requires-clause-context
confirm_above-cycle_test-requires-clause-context t c =
    context_less c.args.graph.now.writes c.args.context.now 1 (length c.args.edges.now + 1)
    (omega arith) c.requires.context

pub confirm_above-cycle_test-requires-clause-cycle : goal.confirm_above-cycle_test-requires-clause-cycle
confirm_above-cycle_test-requires-clause-cycle t c =
    c.requires.cycle

pub confirm_above-returns : goal.confirm_above-returns
confirm_above-returns t c =
    let context = c.args.context.now in
    let above_is = c.in_ok-above.ensures
    ∙ ap (λ (f : Form). record context { rows = context.rows ++ f ∷ [] }) c.copy.ensures in
    IfOk-weaker c.cycle_test.result _ _
    (λ tree h. h c.in_ok-above.above (length c.args.edges.now) above_is c.in_ok-yes.ensures) c.cycle_test.ensures
