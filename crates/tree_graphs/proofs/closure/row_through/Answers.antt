use Rattle.std.proofs.Common.{◌≡◌, ◌+◌, sym, subst, arith}
use Rattle.tree_graphs.specs.Closed.{AreEach, IsThrough}
use Rattle.tree_graphs.proofs.FloydWarshall.{each_none, each_push}
use Rattle.tree_graphs.proofs.closure.row_through.Goals as goal

pub loop-to-init : goal.loop-to-init
loop-to-init c edges most sound =
    let P = IsThrough edges most c.args.bounds.now c.args.middle c.args.from in
    subst (AreEach 0 P) (sym c.new-row.ensures) (each_none P)

pub loop-to-preserved : goal.loop-to-preserved
loop-to-preserved c edges most sound =
    let P = IsThrough edges most c.args.bounds.now c.args.middle c.args.from in
    subst (AreEach (c.loop-to.to + 1) P) (sym c.in_ok-push.ensures.ok)
    (each_push c.loop-to.to P c.loop-to.row c.in_ok-bound_through.field-0 (c.loop-to.invariant edges most sound)
    (c.in_ok-bound_through.ensures edges most sound))

pub returns : goal.returns
returns c edges most sound =
    let P = IsThrough edges most c.args.bounds.now c.args.middle c.args.from in
    let all : c.loop-to.to ≡ c.args.depth = omega arith in
    subst (λ n. AreEach n P c.loop-to.row) all (c.loop-to.invariant edges most sound)
