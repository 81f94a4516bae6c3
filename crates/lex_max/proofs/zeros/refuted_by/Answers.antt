use Rattle.std.proofs.Common.{◌≡◌, ◌^◌, sym, ◌∙◌, subst, arith}
use Rattle.std.specs.Prelude.{Some, IfSome}
use Rattle.int_polyhedra.specs.Steps.{negation_of}
use Rattle.affine_core.specs.declared.form.Form.{Form}
use Rattle.tree_graphs.specs.Cycles.{IsContradiction}
use Rattle.tree_graphs.specs.Facts.{form_parts, IsFact}
use Rattle.lex_max.proofs.DecisionContexts.{context_is, known_contradicts}
use Rattle.tree_graphs.proofs.Small.{opposite_fits, opposite_form}
use Rattle.lex_max.proofs.zeros.refuted_by.Goals as goal
use Rattle.tree_sums.proofs.Within.{IsWithin-weaker}

pub invariant_of-here : goal.invariant_of-here
invariant_of-here c =
    record { fits = context_is c.args.graph.now.writes 0 c.args.context.now c.requires.context }

pub known_below-requires-clause-over : goal.known_below-requires-clause-over
known_below-requires-clause-over c = c.requires.cycle.over ∙ sym c.requires.context.vars

pub known_below-requires-clause-small : goal.known_below-requires-clause-small
known_below-requires-clause-small c =
    IsWithin-weaker (2 ^ 40) (2 ^ 60) c.args.cycle.now.form (omega arith) c.requires.cycle.within

pub zero_leaf-leaf-requires-clause-refuted : goal.zero_leaf-leaf-requires-clause-refuted
zero_leaf-leaf-requires-clause-refuted c =
    let edges = c.args.graph.now.edges.now in
    let w = c.args.graph.now.writes in
    let context = c.args.context.now in
    let cycle = c.args.cycle.now in
    let shown = c.in-Some.shown in
    let row = opposite_form cycle.form in
    let row_is = opposite_fits cycle.form (IsWithin-weaker (2 ^ 40) (2 ^ 60) cycle.form (omega arith)
    c.requires.cycle.within) in
    let told = subst (λ o. IfSome o (λ terms. (row : Form) → negation_of cycle.form ≡ Some row
    → IsFact context 65536 (form_parts row) terms)) c.in-Some.is c.in_ok-shown.ensures in
    let against = known_contradicts w edges context cycle row shown c.requires.context.vars c.requires.cycle row_is
    (told row row_is) in (
      edges,
      c.args.graph.now.graph,
      subst (λ ts. IsContradiction context.vars context.rows edges ts c.as_slice-in-Some.result.now)
          (sym c.as_slice.ensures)
          (subst (IsContradiction context.vars context.rows edges shown) (sym c.as_slice-in-Some.ensures) against),
    )
