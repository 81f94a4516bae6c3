use Rattle.std.proofs.Common.{◌^◌, List, subst, arith}
use Rattle.std.specs.Prelude.{IfNone, IfSome}
use Rattle.std.proofs.lemmas.Result.{IfOk-weaker}
use Rattle.tree_graphs.specs.Closed.{value_at, AreBounds, IsNegativeCycle}
use Rattle.tree_graphs.specs.declared.edges.Edge.{Edge}
use Rattle.tree_graphs.proofs.FloydWarshall.{closed_last, closed_next, closed_wider, few_doublings, small_power}
use Rattle.tree_sums.specs.Closure.{NotNegative}
use Rattle.tree_graphs.proofs.closure.+close.Goals as goal

pub returns-then-middle-depth : goal.returns-then-middle-depth
returns-then-middle-depth t c = λ edges h.
    closed_last edges c.args.depth c.args.middle c.args.bounds c.requires.middle
    (omega (arith, c.if-middle-depth.true)) c.requires.few h

pub returns-in-Some : goal.returns-in-Some
returns-in-Some t c = λ edges h.
    subst (λ o. IfSome o (λ ts. (edges : List Edge) → AreBounds edges 64 c.args.bounds → IsNegativeCycle edges ts))
    c.in-Some.is c.in_ok-terms.ensures.some edges
    (closed_wider edges c.args.depth (2 ^ c.args.middle) 64 c.args.middle c.args.bounds
    (few_doublings c.args.middle (omega (arith, c.requires.few, c.requires.middle))) h).sound

pub through-requires : goal.through-requires
through-requires t c = (
  c.requires.closed.0,
  2 ^ c.args.middle,
  c.requires.closed.1.sound,
  small_power c.args.middle (omega (arith, c.requires.few, c.if-middle-depth.false)),
)

pub close-requires : goal.close-requires
close-requires t c =
    let plain : NotNegative (value_at c.args.bounds c.args.middle c.args.middle)
    = subst (λ o. IfNone o (NotNegative (value_at c.args.bounds c.args.middle c.args.middle))) c.in-None.is
    c.in_ok-terms.ensures.none in
    let closed = closed_next c.requires.closed.0 c.args.depth c.args.middle c.args.bounds c.in_ok-next-in-None.next
    c.requires.closed.1 plain c.in_ok-next-in-None.ensures in (
      omega (arith, c.if-middle-depth.false),
      ((c.requires.closed.0, closed), (c.requires.few, omega (arith, c.if-middle-depth.false))),
    )

pub returns : goal.returns
returns t c =
    let plain : NotNegative (value_at c.args.bounds c.args.middle c.args.middle)
    = subst (λ o. IfNone o (NotNegative (value_at c.args.bounds c.args.middle c.args.middle))) c.in-None.is
    c.in_ok-terms.ensures.none in
    IfOk-weaker c.close.result _ _
    (λ closure h edges old. h edges (closed_next edges c.args.depth c.args.middle c.args.bounds
    c.in_ok-next-in-None.next old plain c.in_ok-next-in-None.ensures)) c.close.ensures
