use Rattle.std.proofs.Common.{◌≡◌, ◌+◌, ◌++◌, map}
use Rattle.sanlp.specs.declared.nest.Tag.{Tag}
use Rattle.net_core.specs.Machine.{net_of}
use Rattle.port_runs.specs.Ports.{PortState}
use Rattle.port_clocks.specs.PortClocks.{comes}
use Rattle.port_sim.specs.Windows.{HasQueues, IsAt, is_of_kind, place_of}
use Rattle.port_sim.proofs.PartLists.{passing_first}
use Rattle.port_sim.proofs.ports.list_window.Given as goal

-- Those that come of the places up to here are listed.
abbrev pub invariant-loop-at : goal.invariant-loop-at
invariant-loop-at l =
    (clock s : PortState Tag) → HasQueues (net_of l.network) clock l.before → IsAt (net_of l.network) s l.ports
    → map place_of l.list.items
    ≡ map place_of l.initial.list.items
    ++ passing_first (comes (net_of l.network) (is_of_kind l.kind) clock s) l.process (l.window.first + l.at)
