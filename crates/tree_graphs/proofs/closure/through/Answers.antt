use Rattle.std.proofs.Common.{◌≡◌, ◌+◌, ℕ, List, sym, subst, arith}
use Rattle.std.specs.Prelude.{Option}
use Rattle.tree_graphs.specs.Closed.{AreEach, IsThrough}
use Rattle.tree_graphs.specs.declared.closure.Bound.{Bound}
use Rattle.tree_graphs.specs.declared.closure.Bounds.{Bounds}
use Rattle.tree_graphs.specs.declared.edges.Edge.{Edge}
use Rattle.tree_graphs.proofs.FloydWarshall.{each_none, each_push}
use Rattle.tree_graphs.proofs.closure.through.Goals as goal

abbrev AreThrough : List Edge → ℕ → Bounds → ℕ → ℕ → ℕ → List (Option Bound) → Type 0
AreThrough edges most bounds middle depth from row = AreEach depth (IsThrough edges most bounds middle from) row

pub loop-from-init : goal.loop-from-init
loop-from-init c edges most sound =
    let P = AreThrough edges most c.args.bounds.now c.args.middle c.args.depth in
    subst (AreEach 0 P) (sym c.new-of.ensures) (each_none P)

pub loop-from-preserved : goal.loop-from-preserved
loop-from-preserved c edges most sound =
    let P = AreThrough edges most c.args.bounds.now c.args.middle c.args.depth in
    subst (AreEach (c.loop-from.from + 1) P) (sym c.in_ok-push.ensures.ok)
    (each_push c.loop-from.from P c.loop-from.of c.in_ok-row_through.field-0 (c.loop-from.invariant edges most sound)
    (c.in_ok-row_through.ensures edges most sound))

pub returns : goal.returns
returns c edges most sound =
    let P = AreThrough edges most c.args.bounds.now c.args.middle c.args.depth in
    let all : c.loop-from.from ≡ c.args.depth = omega arith in
    subst (λ n. AreEach n P c.loop-from.of) all (c.loop-from.invariant edges most sound)
