use Rattle.std.proofs.Common.{length, refl, sym, ap, subst, arith}
use Rattle.std.specs.Prelude.{All}
use Rattle.std.proofs.lemmas.List.Elements.{All-nil}
use Rattle.tree_graphs.specs.Cycles.{IsCycle}
use Rattle.tree_graphs.proofs.cycles.cycles_of.Goals as goal

pub push_cycles-requires-clause-rest : goal.push_cycles-requires-clause-rest
push_cycles-requires-clause-rest c = refl

pub push_cycles-requires-clause-count : goal.push_cycles-requires-clause-count
push_cycles-requires-clause-count c = omega (arith, c.args.graph.now.graph.graph.few)

pub returns-clause-each : goal.returns-clause-each
returns-clause-each c =
    c.in_ok-push_cycles.ensures.each (subst (All (IsCycle c.args.graph.now.writes.vars c.args.graph.now.edges.now))
    (sym c.new-cycles.ensures) (All-nil _))

pub returns-clause-count : goal.returns-clause-count
returns-clause-count c =
    omega (arith, c.in_ok-push_cycles.ensures.count, ap length c.new-cycles.ensures, c.args.graph.now.graph.graph.few)
