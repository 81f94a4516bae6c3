use Rattle.std.proofs.Common.{◌≡◌, ◌+◌, ◌<◌, ◌∷◌, ◌++◌, ◌^◌, [], length, ap, ◌∙◌, sym, subst, rules, arith}
use Rattle.std.specs.Prelude.{All, IfNone, IfSome}
use Rattle.std.proofs.lemmas.List.{nil_from_length}
use Rattle.std.proofs.lemmas.List.Elements.{All-cons, All-head, All-nil, All-tail}
use Rattle.std.proofs.lemmas.Option.{same_Some, IfSome_then}
use Rattle.std.proofs.lemmas.Result.{IfOk-weaker}
use Rattle.tree_order.proofs.NextLoop.{negation_over}
use Rattle.tree_order.proofs.Rounds.{cycle_contradicts, rows_fit}
use Rattle.int_polyhedra.specs.declared.system.Term.{Term}
use Rattle.tree_graphs.specs.Cycles.{IsCycle}
use Rattle.tree_order.specs.Absence.{NoRowRefutesCycle}
use Rattle.tree_graphs.proofs.FactLemmas.{none_then}
use Rattle.tree_graphs.specs.Facts.{form_parts, IsFact, NoRowTells}
use Rattle.tree_graphs.specs.Paths.{terms_from}
use Rattle.tree_order.proofs.absence.+by_cycles.Goals as goal
use Rattle.tree_sums.proofs.Within.{IsWithin-weaker}

pub opposite-requires : goal.opposite-requires
opposite-requires t c =
    let h = c.requires in
    let first : c.args.cycles.now ≡ c.in-Some.cycle.now ∷ c.in-Some.cycles.now = search rules in
    let one : IsCycle c.args.context.now.system.now.vars h.0 c.in-Some.cycle.now
    = All-head (IsCycle c.args.context.now.system.now.vars h.0) c.in-Some.cycle.now c.in-Some.cycles.now
    (subst (All (IsCycle c.args.context.now.system.now.vars h.0)) first h.2) in
    IsWithin-weaker (2 ^ 40) (2 ^ 60) c.in-Some.cycle.now.form (omega arith) one.within

pub known_by-requires : goal.known_by-requires
known_by-requires t c =
    let h = c.requires in
    let first : c.args.cycles.now ≡ c.in-Some.cycle.now ∷ c.in-Some.cycles.now = search rules in
    let one : IsCycle c.args.context.now.system.now.vars h.0 c.in-Some.cycle.now
    = All-head (IsCycle c.args.context.now.system.now.vars h.0) c.in-Some.cycle.now c.in-Some.cycles.now
    (subst (All (IsCycle c.args.context.now.system.now.vars h.0)) first h.2) in
    negation_over c.in-Some.cycle.now.form c.opposite.result
    (IsWithin-weaker (2 ^ 40) (2 ^ 60) c.in-Some.cycle.now.form (omega arith) one.within) c.opposite.ensures ∙ one.over

pub refutation-requires : goal.refutation-requires
refutation-requires t c =
    let h = c.requires in
    let first : c.args.cycles.now ≡ c.in-Some.cycle.now ∷ c.in-Some.cycles.now = search rules in
    let one : IsCycle c.args.context.now.system.now.vars h.0 c.in-Some.cycle.now
    = All-head (IsCycle c.args.context.now.system.now.vars h.0) c.in-Some.cycle.now c.in-Some.cycles.now
    (subst (All (IsCycle c.args.context.now.system.now.vars h.0)) first h.2) in
    subst (All (λ (t : Term). length c.args.context.now.system.now.rows + t.row < 2 ^ 32)) (sym c.as_slice-rows.ensures)
    (rows_fit c.args.context.now.system.now h.0 c.in-Some.cycle.now.terms h.1 one.path.name_edges)

pub by_cycles-requires : goal.by_cycles-requires
by_cycles-requires t c =
    let h = c.requires in
    let first : c.args.cycles.now ≡ c.in-Some.cycle.now ∷ c.in-Some.cycles.now = search rules in (
      omega (arith, ap length first),
      (
        h.0,
        h.1,
        All-tail (IsCycle c.args.context.now.system.now.vars h.0) c.in-Some.cycle.now c.in-Some.cycles.now
            (subst (All (IsCycle c.args.context.now.system.now.vars h.0)) first h.2),
      ),
    )

pub returns-in_default-clause-none : goal.returns-in_default-clause-none
returns-in_default-clause-none t c =
    let none : c.args.cycles.now ≡ [] = nil_from_length c.args.cycles.now c.in_default.ensures.cases in
    subst (All (NoRowRefutesCycle c.args.context.now.system.now)) (sym none) (All-nil _)

pub returns-in_ok-refutation-in-Some-found-clause-some : goal.returns-in_ok-refutation-in-Some-found-clause-some
returns-in_ok-refutation-in-Some-found-clause-some t c = λ edges fit all.
    let first : c.args.cycles.now ≡ c.in-Some.cycle.now ∷ c.in-Some.cycles.now = search rules in
    let one : IsCycle c.args.context.now.system.now.vars edges c.in-Some.cycle.now
    = All-head (IsCycle c.args.context.now.system.now.vars edges) c.in-Some.cycle.now c.in-Some.cycles.now
    (subst (All (IsCycle c.args.context.now.system.now.vars edges)) first all) in
    let context = c.args.context.now.system.now in
    let shown = c.in-Some-found.shown in
    let fact = subst (λ o. IfSome o (IsFact context 65536 (form_parts c.opposite.result))) c.in-Some-found.is
    c.in_ok-found.ensures.some in
    cycle_contradicts context edges c.in-Some.cycle.now c.opposite.result shown c.in_ok-refutation-in-Some-found.field-0
    one c.opposite.ensures fact
    (c.in_ok-refutation-in-Some-found.ensures
    ∙ ap (λ us. us ++ terms_from (length context.rows) c.as_slice-rows.result.now) c.as_slice.ensures
    ∙ ap (λ rows. shown ++ terms_from (length context.rows) rows) c.as_slice-rows.ensures)

pub returns-in-None-clause-some : goal.returns-in-None-clause-some
returns-in-None-clause-some t c =
    let first : c.args.cycles.now ≡ c.in-Some.cycle.now ∷ c.in-Some.cycles.now = search rules in
    IfOk-weaker c.by_cycles.result _ _
    (λ found h. IfSome_then found h
    (λ ts rest edges fit all. rest edges fit (All-tail (IsCycle c.args.context.now.system.now.vars edges)
    c.in-Some.cycle.now
    c.in-Some.cycles.now (subst (All (IsCycle c.args.context.now.system.now.vars edges)) first all))))
    c.by_cycles.ensures.some

pub returns-in-None-clause-none : goal.returns-in-None-clause-none
returns-in-None-clause-none t c =
    let context = c.args.context.now.system.now in
    let cycle = c.in-Some.cycle.now in
    let first : c.args.cycles.now ≡ cycle ∷ c.in-Some.cycles.now = search rules in
    let told = subst (λ o. IfNone o (NoRowTells context.rows c.opposite.result)) c.in-None.is c.in_ok-found.ensures.none in
    let one : NoRowRefutesCycle context cycle = λ row is.
    subst (NoRowTells context.rows) (same_Some c.opposite.result row (sym c.opposite.ensures ∙ is)) told in
    IfOk-weaker c.by_cycles.result _ _
    (λ found h. none_then found _ _ h
    (λ rest. subst (All (NoRowRefutesCycle context)) (sym first) (All-cons (NoRowRefutesCycle context) cycle c.in-Some.cycles.now one rest)))
    c.by_cycles.ensures.none
