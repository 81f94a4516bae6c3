use Rattle.std.proofs.Common.{◌≡◌}
use Rattle.net_core.specs.Machine.{net_of}
use Rattle.net_core.specs.Shape.{events_below}
use Rattle.network_tests.proofs.texts.numbers_fit.Given as goal

abbrev pub invariant-loop-process : goal.invariant-loop-process
invariant-loop-process l = l.events ≡ events_below (net_of l.network) l.process-index
