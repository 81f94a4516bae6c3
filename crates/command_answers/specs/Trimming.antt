-- What the command `trim` writes where nothing is refused.
use Rattle.std.specs.Prelude.{ℕ, List}
use Rattle.cap_trim.specs.Capacities.{capacity_list, lowered_rests, trimmed_network}
use Rattle.net_core.specs.Machine.{Net, net_of}
use Rattle.sanlp.specs.declared.nest.Nest.{Nest}
use Rattle.trim_text.specs.TrimText.{trim_text}
use Rattle.witness_plan.specs.Schedules.{planned_network}
use Rattle.witness_plan.specs.declared.schedules.Policy.{Policy}

-- the capacities of a network, and where it comes to rest when a channel has one place less
abbrev pub capacities_text : Net → List ℕ
capacities_text n = trim_text (capacity_list n) (lowered_rests n)

-- what `trim` writes of a nest: its network's least capacities, which are looked for below those that its schedule needs
abbrev pub trimming_text : Policy → Nest → List ℕ
trimming_text policy nest =
    capacities_text (trimmed_network (net_of (planned_network nest policy)))
