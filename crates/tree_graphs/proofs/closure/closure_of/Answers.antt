use Rattle.std.proofs.lemmas.Result.{IfOk-weaker}
use Rattle.tree_graphs.proofs.FloydWarshall.{closed_first}
use Rattle.tree_graphs.proofs.closure.closure_of.Goals as goal

pub close-requires-clause-closed : goal.close-requires-clause-closed
close-requires-clause-closed c = (
  c.args.edges.now,
  closed_first c.args.edges.now c.args.depth c.in_ok-first_bounds.field-0 c.in_ok-first_bounds.ensures,
)

pub returns : goal.returns
returns c =
    IfOk-weaker c.close.result _ _
    (λ closure h. h c.args.edges.now (closed_first c.args.edges.now c.args.depth c.in_ok-first_bounds.field-0
    c.in_ok-first_bounds.ensures)) c.close.ensures
