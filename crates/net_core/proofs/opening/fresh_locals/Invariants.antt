use Rattle.net_core.specs.Machine.{net_of}
use Rattle.net_core.specs.Held.{AreFresh}
use Rattle.net_core.proofs.opening.fresh_locals.Given as goal

abbrev pub invariant-loop-at : goal.invariant-loop-at
invariant-loop-at g l = AreFresh (net_of l.network) l.locals.items l.at
