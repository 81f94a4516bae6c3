use Rattle.std.proofs.Common.{◌<◌, length}
use Rattle.net_core.specs.Machine.{net_of}
use Rattle.net_core.specs.Progress.{cut_of}
use Rattle.cap_trim.proofs.Rings.{IsPath}
use Rattle.cap_trim.proofs.needed_places.is_ring.Given as goal

-- the process is so many steps on from the first
abbrev pub invariant-loop : goal.invariant-loop
invariant-loop l = record {
  path : IsPath (net_of l.network) (cut_of l.progress) l.channel l.first l.counter l.process;
  there : l.process < length l.network.processes;
}
