use Rattle.net_core.specs.Machine.{net_of}
use Rattle.net_core.proofs.Fresh.{start_is_for, no_capacity}
use Rattle.net_core.proofs.opening.start.Goals as goal

pub returns-clause-state : goal.returns-clause-state
returns-clause-state g c =
    let network = c.args.network.now in
    start_is_for (net_of network) c.args.points.now.of c.in_ok-locals.locals.items c.in_ok-queues.queues.items
    c.requires.shaped c.requires.numbers
    (no_capacity network) c.in_ok-locals.ensures c.in_ok-queues.ensures
