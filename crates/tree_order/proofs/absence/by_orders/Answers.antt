-- A cycle goes out by an order row or a row of the candidate and back by one of either. The first of the four ways that
-- is below 0 is taken, but for the candidate's own cycles, which are asked elsewhere.
use Rattle.std.proofs.Common.{◌++◌, List, sym, subst}
use Rattle.std.specs.Prelude.{IfSome}
use Rattle.std.proofs.lemmas.Option.{IfSome_then}
use Rattle.std.proofs.lemmas.Result.{IfOk-weaker}
use Rattle.tree_order.specs.Absence.{AreBack, AreNumbered, IsContradicted}
use Rattle.tree_order.proofs.Absent.{candidate_context}
use Rattle.tree_order.proofs.Rounds.{numbered_behind, numbered_first, with_orders}
use Rattle.tree_graphs.specs.declared.edges.Edge.{Edge}
use Rattle.tree_order.proofs.absence.by_orders.Goals as goal

pub invariant_of-here : goal.invariant_of-here
invariant_of-here c = let a = c.requires.candidate
    in record { fits = candidate_context a.0 c.args.context.now 0 c.args.candidate.now a.1 c.requires.context }

pub by_rounds-requires : goal.by_rounds-requires
by_rounds-requires c =
    let a = c.requires.candidate in
    let edges = c.args.candidate.now.edges in
    let orders = c.args.orders.now in
    let numbered = numbered_behind edges orders c.len-behind.result c.len-behind.ensures in
    let first = subst (λ xs. AreNumbered (edges ++ orders) xs 0) (sym c.as_slice-own.ensures)
    (numbered_first edges orders) in (
      edges,
      edges ++ orders,
      with_orders c.args.context.now a.0 c.args.candidate.now c.args.bounds.now orders c.as_slice-own.result.now orders
          c.depth-zero.result 0 c.len-behind.result a.1 c.requires.bounds c.requires.context c.requires.orders
          c.requires.few first numbered,
    )

pub returns-in-Some : goal.returns-in-Some
returns-in-Some c =
    let a = c.requires.candidate in
    let edges = c.args.candidate.now.edges in
    let orders = c.args.orders.now in
    let numbered = numbered_behind edges orders c.len-behind.result c.len-behind.ensures in
    let first =
    subst (λ xs. AreNumbered (edges ++ orders) xs 0) (sym c.as_slice-own.ensures) (numbered_first edges orders) in
    let told = subst (λ o. IfSome o (λ ts. (own edges : List Edge)
    → AreBack c.args.context.now own edges c.args.bounds.now c.depth-zero.result c.as_slice-own.result.now 0 orders
    c.len-behind.result → IsContradicted c.args.context.now edges ts)) c.in-Some.is
    c.in_ok-by_first.ensures in
    told edges (edges ++ orders)
    (with_orders c.args.context.now a.0 c.args.candidate.now c.args.bounds.now orders c.as_slice-own.result.now orders
    c.depth-zero.result 0 c.len-behind.result a.1 c.requires.bounds c.requires.context c.requires.orders
    c.requires.few first numbered)

pub by_rounds-requires-2 : goal.by_rounds-requires-2
by_rounds-requires-2 c =
    let a = c.requires.candidate in
    let edges = c.args.candidate.now.edges in
    let orders = c.args.orders.now in
    let numbered = numbered_behind edges orders c.len-behind.result c.len-behind.ensures in (
      edges,
      edges ++ orders,
      with_orders c.args.context.now a.0 c.args.candidate.now c.args.bounds.now orders orders orders c.depth-zero.result
          c.len-behind.result c.len-behind.result a.1 c.requires.bounds c.requires.context c.requires.orders
          c.requires.few numbered numbered,
    )

pub returns-in-Some-by_order : goal.returns-in-Some-by_order
returns-in-Some-by_order c =
    let a = c.requires.candidate in
    let edges = c.args.candidate.now.edges in
    let orders = c.args.orders.now in
    let numbered = numbered_behind edges orders c.len-behind.result c.len-behind.ensures in
    let told = subst (λ o. IfSome o (λ ts. (own edges : List Edge)
    → AreBack c.args.context.now own edges c.args.bounds.now c.depth-zero.result orders c.len-behind.result orders
    c.len-behind.result → IsContradicted c.args.context.now edges ts)) c.in-Some-by_order.is
    c.in_ok-by_order.ensures in
    told edges (edges ++ orders)
    (with_orders c.args.context.now a.0 c.args.candidate.now c.args.bounds.now orders orders orders c.depth-zero.result
    c.len-behind.result c.len-behind.result a.1 c.requires.bounds c.requires.context c.requires.orders
    c.requires.few numbered numbered)

pub by_rounds-requires-3 : goal.by_rounds-requires-3
by_rounds-requires-3 c =
    let a = c.requires.candidate in
    let edges = c.args.candidate.now.edges in
    let orders = c.args.orders.now in
    let numbered = numbered_behind edges orders c.len-behind.result c.len-behind.ensures in
    let first = subst (λ xs. AreNumbered (edges ++ orders) xs 0) (sym c.as_slice-own.ensures)
    (numbered_first edges orders) in (
      edges,
      edges ++ orders,
      with_orders c.args.context.now a.0 c.args.candidate.now c.args.bounds.now orders orders c.as_slice-own.result.now
          c.depth-zero.result c.len-behind.result 0 a.1 c.requires.bounds c.requires.context c.requires.orders
          c.requires.few numbered first,
    )

pub returns : goal.returns
returns c =
    let a = c.requires.candidate in
    let edges = c.args.candidate.now.edges in
    let orders = c.args.orders.now in
    let numbered = numbered_behind edges orders c.len-behind.result c.len-behind.ensures in
    let first =
    subst (λ xs. AreNumbered (edges ++ orders) xs 0) (sym c.as_slice-own.ensures) (numbered_first edges orders) in
    let back = with_orders c.args.context.now a.0 c.args.candidate.now c.args.bounds.now orders orders
    c.as_slice-own.result.now c.depth-zero.result c.len-behind.result 0 a.1 c.requires.bounds c.requires.context
    c.requires.orders
    c.requires.few numbered first in
    IfOk-weaker c.by_rounds-3.result _ _
    (λ found h. IfSome_then found h (λ ts told. told edges (edges ++ orders) back)) c.by_rounds-3.ensures
