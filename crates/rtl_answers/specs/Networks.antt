-- The network that a design is of.
use Rattle.sanlp.specs.declared.nest.Nest.{Nest}
use Rattle.net_core.specs.declared.network.Network.{Network}
use Rattle.witness_plan.specs.declared.schedules.Policy.TheVariants as schedule
use Rattle.witness_plan.specs.Schedules.{planned_network}
use Rattle.least_network.specs.Networks.{least_network}
use Rattle.rtl_line.specs.declared.words.Policy.{Policy}
use Rattle.rtl_line.specs.declared.words.Policy.TheVariants.{Seq, Down, Least}

-- the network of a nest with the capacities that are wanted: those that a schedule needs, or least ones
abbrev pub network_for : Policy → Nest → Network
network_for Seq nest = planned_network nest schedule.Seq
network_for Down nest = planned_network nest schedule.Down
network_for Least nest = least_network nest
