-- What is told of a network's clocks in place of its design.
use Rattle.std.specs.Prelude.{ℕ, List, [], ◌∷◌, ◌++◌, Option, Some, None, codes, decimal}
use Rattle.std.specs.Option.{option_map_or}
use Rattle.text_out.specs.Words.{line_text}
use Rattle.sanlp.specs.declared.nest.Nest.{Nest}
use Rattle.net_core.specs.Machine.{Net, net_of}
use Rattle.clock_sim.specs.Clocks.{clocks}
use Rattle.port_clocks.specs.PortClocks.{port_clocks}
use Rattle.command_answers.specs.Simulating.{clocks_line}
use Rattle.rtl_line.specs.declared.words.Policy.{Policy}
use Rattle.rtl_line.specs.declared.words.Policy.TheVariants.{Seq, Down, Least}
use Rattle.rtl_line.specs.declared.words.Ports.{Ports}
use Rattle.rtl_line.specs.declared.words.Ports.TheVariants.{One, All}
use Rattle.rtl_answers.specs.Networks.{network_for}
use Rattle.rtl_answers.specs.declared.clocks.Clocks.{Clocks}

-- the line that tells the number of clocks with the capacities that the schedule `down` needs
abbrev pub down_line : ℕ → List ℕ
down_line count = line_text (codes "down" ∷ decimal count ∷ [])

-- a line of clocks, and beside least capacities one of those that `down` takes
abbrev pub clocks_lines : Clocks → List ℕ
clocks_lines told = clocks_line told.clocks ++ option_map_or down_line told.down []

-- the number of clocks of a network's clocked run: that of the scripts, or that of ports which go each at its own pace
abbrev pub clocks_with : Ports → Net → ℕ
clocks_with One n = clocks n
clocks_with All n = port_clocks n

-- that number for a nest's network
abbrev pub clocks_for : Ports → Policy → Nest → ℕ
clocks_for ports policy nest = clocks_with ports (net_of (network_for policy nest))

abbrev pub down_clocks : Ports → Policy → Nest → Option ℕ
down_clocks ports Seq nest = None
down_clocks ports Down nest = None
down_clocks ports Least nest = Some (clocks_for ports Down nest)

abbrev pub clocks_of : Ports → Policy → Nest → Clocks
clocks_of ports policy nest =
    record { clocks = clocks_for ports policy nest; down = down_clocks ports policy nest }

-- what is written of a nest where the clocks are asked for
abbrev pub clocks_text : Ports → Policy → Nest → List ℕ
clocks_text ports policy nest = clocks_lines (clocks_of ports policy nest)
