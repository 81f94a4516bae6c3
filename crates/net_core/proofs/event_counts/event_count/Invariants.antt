use Rattle.std.proofs.Common.{◌≡◌}
use Rattle.net_core.specs.Machine.{net_of}
use Rattle.net_core.specs.Shape.{events_below}
use Rattle.net_core.proofs.event_counts.event_count.Given as goal

abbrev pub invariant-loop-process : goal.invariant-loop-process
invariant-loop-process l = l.count ≡ events_below (net_of l.network) l.process-index
