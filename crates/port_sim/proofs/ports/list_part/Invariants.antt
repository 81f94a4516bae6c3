use Rattle.std.proofs.Common.{◌≡◌, filter, flat_map, map}
use Rattle.std.specs.List.{range_with_len}
use Rattle.sanlp.specs.declared.nest.Tag.{Tag}
use Rattle.net_core.specs.Machine.{net_of}
use Rattle.port_runs.specs.Ports.{PortState}
use Rattle.port_clocks.specs.PortClocks.{comes, places_of}
use Rattle.port_sim.specs.Windows.{HasQueues, IsAt, is_of_kind, place_of}
use Rattle.port_sim.proofs.ports.list_part.Given as goal

-- Those of the processes below this one are listed.
abbrev pub invariant-loop-process : goal.invariant-loop-process
invariant-loop-process l =
    (clock s : PortState Tag) → HasQueues (net_of l.network) clock l.before → IsAt (net_of l.network) s l.ports
    → map place_of l.list.items
    ≡ filter (comes (net_of l.network) (is_of_kind l.kind) clock s)
    (flat_map (places_of (net_of l.network)) (range_with_len 0 l.process))
