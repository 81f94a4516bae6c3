use Rattle.std.proofs.Common.{◌+◌, length, sym, ap, subst, arith}
use Rattle.std.specs.Prelude.{All}
use Rattle.std.proofs.lemmas.Result.{IfOk-weaker}
use Rattle.tree_graphs.specs.Cycles.{IsCycle}
use Rattle.lex_max.proofs.ZeroLeaves.{answer_wider, context_less}
use Rattle.lex_max.proofs.greatest.closed_tree.Goals as goal

pub conditions-requires-clause-context : goal.conditions-requires-clause-context
conditions-requires-clause-context c =
    context_less c.args.graph.now.writes c.args.context.now (length c.as_slice.result.now + 392) 3584
    (omega (arith, ap length c.as_slice.ensures, c.in_ok-cycles.ensures.count)) c.requires

pub conditions-requires-clause-cycles : goal.conditions-requires-clause-cycles
conditions-requires-clause-cycles c = subst (All (IsCycle c.args.graph.now.writes.vars c.args.graph.now.edges.now))
    (sym c.as_slice.ensures) c.in_ok-cycles.ensures.each

pub returns : goal.returns
returns c =
    IfOk-weaker c.conditions.result _ _
    (λ tree h. answer_wider c.args.graph.now.writes c.args.context.now (length c.as_slice.result.now + 392) 3584 tree
    (omega (arith, ap length c.as_slice.ensures, c.in_ok-cycles.ensures.count)) h) c.conditions.ensures
