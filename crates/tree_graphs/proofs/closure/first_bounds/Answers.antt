use Rattle.std.proofs.Common.{◌≡◌, ◌+◌, sym, subst, arith}
use Rattle.tree_graphs.specs.Closed.{AreEach, IsFirst}
use Rattle.tree_graphs.proofs.FloydWarshall.{each_none, each_push}
use Rattle.tree_graphs.proofs.closure.first_bounds.Goals as goal

pub loop-from-preserved : goal.loop-from-preserved
loop-from-preserved c =
    subst (AreEach (c.loop-from.from + 1) (λ from row. AreEach c.args.depth (IsFirst c.args.edges.now from) row))
    (sym c.in_ok-push.ensures.ok)
    (each_push c.loop-from.from (λ from row. AreEach c.args.depth (IsFirst c.args.edges.now from) row) c.loop-from.of
    c.in_ok-first_row.field-0 c.loop-from.invariant c.in_ok-first_row.ensures)

pub loop-from-init : goal.loop-from-init
loop-from-init c = subst (AreEach 0 (λ from row. AreEach c.args.depth (IsFirst c.args.edges.now from) row))
    (sym c.new-of.ensures) (each_none (λ from row. AreEach c.args.depth (IsFirst c.args.edges.now from) row))

pub returns : goal.returns
returns c =
    let all : c.loop-from.from ≡ c.args.depth = omega arith in
    subst (λ n. AreEach n (λ from row. AreEach c.args.depth (IsFirst c.args.edges.now from) row) c.loop-from.of) all
    c.loop-from.invariant
