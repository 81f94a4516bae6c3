use Rattle.std.proofs.Common.{◌+◌, ◌^◌, ◌<◌, ◌++◌, [], length, sym, ap, ◌∙◌, subst}
use Rattle.std.specs.Prelude.{All}
use Rattle.std.proofs.lemmas.Option.{IfSome_then}
use Rattle.tree_order.specs.Absence.{NoRowRefutesCycle}
use Rattle.std.proofs.lemmas.Result.{IfOk-weaker}
use Rattle.int_polyhedra.specs.declared.system.Term.{Term}
use Rattle.tree_graphs.specs.Cycles.{IsCycle}
use Rattle.tree_graphs.specs.Asked.{depth_of_write}
use Rattle.tree_graphs.specs.Closed.{IsClosure, IsNegativeCycle}
use Rattle.tree_graphs.specs.Paths.{terms_from}
use Rattle.tree_order.proofs.Absent.{candidate_context}
use Rattle.tree_graphs.proofs.FactLemmas.{none_then}
use Rattle.tree_order.proofs.Rounds.{negative_is_contradicted, own_fits, rows_fit}
use Rattle.tree_order.proofs.absence.absence_of.Goals as goal

pub refutation-requires : goal.refutation-requires
refutation-requires c =
    let a = c.requires.candidate in
    let candidate = c.args.candidate.now in
    let context = c.args.context.now in
    let negative : IsNegativeCycle candidate.edges c.in-Negative.rows =
    subst (IsClosure candidate.edges (depth_of_write candidate.writes)) c.in-Negative.is a.1.closure in
    subst (All (λ (t : Term). length context.rows + t.row < 2 ^ 32)) (sym c.as_slice.ensures)
    (rows_fit context candidate.edges c.in-Negative.rows
    (own_fits context a.0 candidate a.1 c.requires.context) negative.path.name_edges)

pub returns-in_ok-refutation-in-Negative-clause-some : goal.returns-in_ok-refutation-in-Negative-clause-some
returns-in_ok-refutation-in-Negative-clause-some c =
    let a = c.requires.candidate in
    let candidate = c.args.candidate.now in
    let context = c.args.context.now in
    let negative : IsNegativeCycle candidate.edges c.in-Negative.rows =
    subst (IsClosure candidate.edges (depth_of_write candidate.writes)) c.in-Negative.is a.1.closure in
    negative_is_contradicted context candidate.edges c.in-Negative.rows c.in_ok-refutation-in-Negative.field-0 negative
    (c.in_ok-refutation-in-Negative.ensures
    ∙ ap (λ rows. [] ++ terms_from (length context.rows) rows) c.as_slice.ensures)

pub invariant_of-here : goal.invariant_of-here
invariant_of-here c = let a = c.requires.candidate
    in record { fits = candidate_context a.0 c.args.context.now 0 c.args.candidate.now a.1 c.requires.context }

pub by_cycles-requires : goal.by_cycles-requires
by_cycles-requires c =
    let a = c.requires.candidate in
    let candidate = c.args.candidate.now in
    let context = c.args.context.now in (
      candidate.edges,
      own_fits context a.0 candidate a.1 c.requires.context,
      subst (λ cycles. All (IsCycle context.vars candidate.edges) cycles) (sym c.as_slice-in-Closed.ensures)
          (subst (λ v. All (IsCycle v candidate.edges) candidate.cycles) (sym c.requires.context.vars_are) a.1.cycles),
    )

pub returns-in-Closed-clause-some : goal.returns-in-Closed-clause-some
returns-in-Closed-clause-some c =
    let a = c.requires.candidate in
    let candidate = c.args.candidate.now in
    let context = c.args.context.now in
    let fit = own_fits context a.0 candidate a.1 c.requires.context in
    let all = subst (λ cycles. All (IsCycle context.vars candidate.edges) cycles) (sym c.as_slice-in-Closed.ensures)
    (subst (λ v. All (IsCycle v candidate.edges) candidate.cycles) (sym c.requires.context.vars_are) a.1.cycles) in
    IfOk-weaker c.by_cycles.result _ _
    (λ found h. IfSome_then found h (λ ts told. told candidate.edges fit all)) c.by_cycles.ensures.some

pub returns-in-Closed-clause-none : goal.returns-in-Closed-clause-none
returns-in-Closed-clause-none c =
    let context = c.args.context.now in
    IfOk-weaker c.by_cycles.result _ _
    (λ found h. none_then found _ _ h
    (λ cycles. record {
      bounds = c.in-Closed.field-0;
      closed = c.in-Closed.is;
      cycles = subst (All (NoRowRefutesCycle context)) c.as_slice-in-Closed.ensures cycles;
    }))
    c.by_cycles.ensures.none
