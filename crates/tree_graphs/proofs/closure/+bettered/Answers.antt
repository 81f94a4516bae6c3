use Rattle.std.proofs.Common.{◌≡◌, ◌∷◌, sym, ◌∙◌, subst, rules}
use Rattle.std.specs.Prelude.{Some}
use Rattle.std.proofs.lemmas.Result.{IfOk-weaker}
use Rattle.tree_graphs.specs.Closed.{IsBettered}
use Rattle.tree_graphs.proofs.PathSums.{bettered_by, bettered_past, dropped_at}
use Rattle.tree_graphs.proofs.closure.+bettered.Goals as goal

pub returns-then-betters : goal.returns-then-betters
returns-then-betters t c =
    let g = c.in-Some.edge.now in
    let rest = c.in-Some.edges.now in
    let number = c.args.number in
    let from = c.args.from in
    let to = c.args.to in
    let first : c.args.edges.now ≡ g ∷ rest = search rules in
    let b = c.if-betters.ensures.yes in
    IfOk-weaker c.bettered.result _ _
    (λ better h whole vars depth each at x y.
    subst (λ es. IsBettered whole es from to c.args.bound better) (sym first)
    (bettered_by whole rest vars depth number from to g c.args.bound better each (at ∙ first) x y b.0 b.1.0 b.1.1
    (subst (λ o. IsBettered whole rest from to (Some o) better) c.in_ok-better.ensures
    (h whole vars depth each (dropped_at whole number g rest (at ∙ first)).1 x y))))
    c.bettered.ensures

pub returns : goal.returns
returns t c =
    let g = c.in-Some.edge.now in
    let rest = c.in-Some.edges.now in
    let number = c.args.number in
    let from = c.args.from in
    let to = c.args.to in
    let first : c.args.edges.now ≡ g ∷ rest = search rules in
    IfOk-weaker c.bettered-2.result _ _
    (λ better h whole vars depth each at x y.
    subst (λ es. IsBettered whole es from to c.args.bound better) (sym first)
    (bettered_past whole rest from to g c.args.bound better c.if-betters.ensures.no
    (h whole vars depth each (dropped_at whole number g rest (at ∙ first)).1 x y)))
    c.bettered-2.ensures
