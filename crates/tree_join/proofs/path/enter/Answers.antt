use Rattle.std.proofs.Common.{ap, sym, subst}
use Rattle.std.proofs.lemmas.Result.{IfOk-weaker}
use Rattle.tree_graphs.specs.Facts.{IsContext}
use Rattle.tree_join.proofs.path.enter.Goals as goal

pub invariant_of-here : goal.invariant_of-here
invariant_of-here c =
    record {
      fits = subst (λ rows. IsContext (record c.args.context.now { rows = rows })) (sym c.in_ok-push.ensures.ok)
          c.requires;
    }

pub returns-clause-context : goal.returns-clause-context
returns-clause-context c =
    IfOk-weaker c.dead_leaf.result _ _
    (λ leaf told. ap (λ rows. record c.args.context.now { rows = rows }) c.in_ok-push.ensures.ok) c.dead_leaf.ensures.joined

pub returns-clause-dead : goal.returns-clause-dead
returns-clause-dead c = c.dead_leaf.ensures.joined

pub returns-clause-low : goal.returns-clause-low
returns-clause-low c = c.dead_leaf.ensures.low
