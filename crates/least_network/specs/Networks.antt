-- Networks with least capacities.
use Rattle.std.specs.Prelude.{ℕ, List}
use Rattle.sanlp.specs.declared.nest.Nest.{Nest}
use Rattle.net_core.specs.declared.network.Network.{Network}
use Rattle.net_core.specs.Machine.{net_of}
use Rattle.witness_plan.specs.declared.schedules.Policy.TheVariants.{Down}
use Rattle.witness_plan.specs.Schedules.{planned_network}
use Rattle.witness_plan.specs.Sequential.{with_capacities}
use Rattle.cap_trim.specs.Capacities.{NoneEndsBelow, SticksBelow, capacity_list, trimmed_network}

-- the network with the capacities that `trim` finds for it
abbrev pub lowered : Network → Network
lowered network = with_capacities network (capacity_list (trimmed_network (net_of network)))

-- the network of a nest with least capacities, which are looked for below those that the schedule `down` needs
abbrev pub least_network : Nest → Network
least_network nest = lowered (planned_network nest Down)

-- none of its capacities can be lowered, alone or with others, and with one place less in a single channel the network sticks
pub record HasLeastCapacities (network : Network) : Type 0 where
  pub none_below : NoneEndsBelow (net_of network) (net_of network).capacity
  pub sticks : (rests : List (List ℕ)) × SticksBelow (net_of network) rests
