use Rattle.net_core.specs.Held.{held_of, IsFor}
use Rattle.net_core.specs.Machine.{net_of}
use Rattle.nest_tests.proofs.orders.run_in.Given as goal

abbrev pub invariant-loop-at : goal.invariant-loop-at
invariant-loop-at l = IsFor (net_of l.network) (held_of l.state)
