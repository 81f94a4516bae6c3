use Rattle.std.proofs.Common.{sym, subst}
use Rattle.std.specs.Prelude.{All}
use Rattle.std.proofs.lemmas.List.Elements.{All-nil}
use Rattle.tree_graphs.specs.Cycles.{IsCycle}
use Rattle.tree_graphs.specs.Asked.{depth_of_write}
use Rattle.tree_graphs.specs.Closed.{IsClosure}
use Rattle.tree_join.proofs.candidates.cycles_in.Goals as goal

pub invariant_of-graph-clause-closed : goal.invariant_of-graph-clause-closed
invariant_of-graph-clause-closed c =
    subst (IsClosure c.args.edges.now (depth_of_write c.args.writes.now)) c.in-Closed.is c.requires.closure

pub returns-in-Closed : goal.returns-in-Closed
returns-in-Closed c = c.cycles_of.ensures.each

pub returns-in-Negative : goal.returns-in-Negative
returns-in-Negative c =
    subst (All (IsCycle c.args.writes.now.vars c.args.edges.now)) (sym c.new.ensures) (All-nil _)
