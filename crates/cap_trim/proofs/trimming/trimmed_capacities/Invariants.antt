use Rattle.net_core.specs.Machine.{net_of}
use Rattle.cap_trim.proofs.Turns.{HaveTurned}
use Rattle.cap_trim.proofs.trimming.trimmed_capacities.Given as goal

abbrev pub invariant-loop-channel : goal.invariant-loop-channel
invariant-loop-channel l = HaveTurned (net_of l.wired.network.now) l.channel l.capacities.items
