use Rattle.std.proofs.Common.{◌≡◌, ◌++◌, ◌∷◌, [], ◌^◌, sym, ap, ◌∙◌, subst, arith}
use Rattle.std.proofs.lemmas.Option.{same_Some}
use Rattle.std.proofs.lemmas.Result.{IfOk-weaker}
use Rattle.affine_core.specs.declared.form.Form.{Form}
use Rattle.int_polyhedra.specs.declared.system.System.{System}
use Rattle.lex_max.specs.Answer.{IsAnswer}
use Rattle.tree_graphs.specs.Cycles.{IsContradiction}
use Rattle.lex_max.proofs.DecisionContexts.{added_contradicts, context_more, cycle_row_over, cycle_row_small}
use Rattle.lex_max.proofs.zeros.zero_below.Goals as goal
use Rattle.tree_sums.proofs.Within.{IsWithin-weaker}

pub opposite-row-requires : goal.opposite-row-requires
opposite-row-requires c = IsWithin-weaker (2 ^ 40) (2 ^ 60) c.args.cycle.now.form (omega arith) c.requires.cycle.within

pub zero_leaf-requires-clause-context : goal.zero_leaf-requires-clause-context
zero_leaf-requires-clause-context c =
    let w = c.args.graph.now.writes in
    let edges = c.args.graph.now.edges.now in
    context_more w 0 1 c.args.context.now c.in_ok-below.below c.opposite-row.result c.in_ok-below.ensures
    (cycle_row_over w edges c.args.cycle.now c.opposite-row.result c.requires.cycle c.opposite-row.ensures)
    (cycle_row_small w edges c.args.cycle.now c.opposite-row.result c.requires.cycle c.opposite-row.ensures)
    (omega arith) c.requires.context

pub zero_leaf-requires-clause-refuted : goal.zero_leaf-requires-clause-refuted
zero_leaf-requires-clause-refuted c =
    let w = c.args.graph.now.writes in
    let edges = c.args.graph.now.edges.now in
    let below = c.in_ok-below.below in
    let cycle = c.args.cycle.now in (
      edges,
      c.args.graph.now.graph,
      subst (λ rows. IsContradiction below.vars below.rows edges c.as_slice.result.now rows) (sym c.as_slice-2.ensures)
          (subst (λ ts. IsContradiction below.vars below.rows edges ts cycle.terms) (sym c.as_slice.ensures)
          (added_contradicts w edges c.args.context.now below cycle c.opposite-row.result c.in_ok-own.own c.len.result
          c.requires.context.vars c.requires.cycle c.opposite-row.ensures c.in_ok-below.ensures c.len.ensures
          c.in_ok-own.ensures)),
    )

pub returns : goal.returns
returns c =
    let w = c.args.graph.now.writes in
    let context = c.args.context.now in
    IfOk-weaker c.zero_leaf.result _ _
    (λ tree h below row tests row_is is.
    let same : row ≡ c.opposite-row.result = same_Some row c.opposite-row.result (sym row_is ∙ c.opposite-row.ensures)
    in
    let here : c.in_ok-below.below ≡ below = c.in_ok-below.ensures
    ∙ sym (is ∙ ap (λ (row : Form). record context { rows = context.rows ++ row ∷ [] }) same) in
    subst (λ (below : System). IsAnswer w below tests tree) here (h tests)) c.zero_leaf.ensures
