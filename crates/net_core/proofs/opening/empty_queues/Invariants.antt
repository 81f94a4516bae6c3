use Rattle.net_core.specs.Machine.{net_of}
use Rattle.net_core.specs.Held.{AreEmpty}
use Rattle.net_core.proofs.opening.empty_queues.Given as goal

abbrev pub invariant-loop-at : goal.invariant-loop-at
invariant-loop-at g l = AreEmpty (net_of l.wired.network.now) l.queues.items l.at
