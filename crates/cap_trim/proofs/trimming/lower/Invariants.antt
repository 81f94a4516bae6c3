use Rattle.net_core.specs.Machine.{net_of}
use Rattle.cap_trim.proofs.CapacitySearch.{IsTrying}
use Rattle.cap_trim.proofs.trimming.lower.Given as goal

abbrev pub invariant-loop-capacity : goal.invariant-loop-capacity
invariant-loop-capacity l =
    IsTrying (net_of l.wired.network.now) l.fn.capacities l.channel l.capacity l.progress l.capacities
