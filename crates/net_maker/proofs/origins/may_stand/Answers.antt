use Rattle.net_checker.proofs.Ready.{ready_at}
use Rattle.net_maker.proofs.SmallTrees.{small_never}
use Rattle.net_maker.proofs.origins.may_stand.Goals as goal

pub returns-then-stays_within-clause-fits : goal.returns-then-stays_within-clause-fits
returns-then-stays_within-clause-fits c = λ told.
    small_never c.args.nest.now c.args.statement c.args.read c.args.tree.now c.requires.size c.requires.checked
    (c.stays_within.ensures c.if-stays_within.true)

pub overflows_at_no_point-requires-clause-ready : goal.overflows_at_no_point-requires-clause-ready
overflows_at_no_point-requires-clause-ready c =
    ready_at c.args.nest.now c.args.statement c.args.read c.args.tree.now c.requires.checked
