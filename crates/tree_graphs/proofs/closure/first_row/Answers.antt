use Rattle.std.proofs.Common.{◌≡◌, ◌+◌, sym, subst, arith}
use Rattle.tree_graphs.specs.Closed.{AreEach, IsFirst}
use Rattle.tree_graphs.proofs.FloydWarshall.{each_none, each_push}
use Rattle.tree_graphs.proofs.closure.first_row.Goals as goal

pub loop-to-preserved : goal.loop-to-preserved
loop-to-preserved c =
    subst (AreEach (c.loop-to.to + 1) (IsFirst c.args.edges.now c.args.from)) (sym c.in_ok-push.ensures.ok)
    (each_push c.loop-to.to (IsFirst c.args.edges.now c.args.from) c.loop-to.row c.in_ok-first_bound.field-0
    c.loop-to.invariant c.in_ok-first_bound.ensures)

pub loop-to-init : goal.loop-to-init
loop-to-init c = subst (AreEach 0 (IsFirst c.args.edges.now c.args.from)) (sym c.new-row.ensures)
    (each_none (IsFirst c.args.edges.now c.args.from))

pub returns : goal.returns
returns c =
    let all : c.loop-to.to ≡ c.args.depth = omega arith in
    subst (λ n. AreEach n (IsFirst c.args.edges.now c.args.from) c.loop-to.row) all c.loop-to.invariant
