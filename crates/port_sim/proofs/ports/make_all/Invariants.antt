use Rattle.std.proofs.Common.{map}
use Rattle.sanlp.specs.declared.nest.Tag.{Tag}
use Rattle.net_core.specs.Machine.{net_of}
use Rattle.net_core.specs.Rules.{tags}
use Rattle.port_runs.specs.Ports.{IsPortRun, PortState}
use Rattle.port_sim.specs.Windows.{IsAt, place_of}
use Rattle.port_sim.proofs.RunLists.{after_first}
use Rattle.port_sim.proofs.ports.make_all.Given as goal

-- Those up to here have come.
abbrev pub invariant-loop-at : goal.invariant-loop-at
invariant-loop-at l =
    (s : PortState Tag) → IsAt (net_of l.network) s l.initial.ports
    → IsPortRun (net_of l.network) tags s (map place_of l.list)
    → IsAt (net_of l.network) (after_first (net_of l.network) s l.list l.at-index) l.ports
