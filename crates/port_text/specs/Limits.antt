-- Which sequencers of ports are too long for a design.
use Rattle.std.specs.Prelude.{ℕ, max, nat_lt, Bool, List, Option, length, map}
use Rattle.std.specs.List.{find}
use Rattle.script_blocks.specs.Nesting.{greatest}
use Rattle.unit_text.specs.Limits.{gain_instructions}
use Rattle.port_text.specs.declared.unit.GetControl.{GetControl}
use Rattle.port_text.specs.declared.unit.PortUnit.{PortUnit}
use Rattle.port_text.specs.declared.unit.PutControl.{PutControl}

-- how many instructions the sequencer of a port has
abbrev pub get_instructions : GetControl → ℕ
get_instructions control = length control.items.instructions

abbrev pub put_instructions : PutControl → ℕ
put_instructions control = length control.items.instructions

-- how many instructions the longest sequencer of a port has
abbrev pub port_instructions : PortUnit → ℕ
port_instructions unit =
    max (greatest (map get_instructions unit.gets)) (greatest (map put_instructions unit.puts))

-- how many instructions the longest sequencer has: that of the fires, of a port, or of what a loop gains
abbrev pub most_instructions : PortUnit → ℕ
most_instructions unit =
    max (max (length unit.fires.instructions) (port_instructions unit))
    (greatest (map gain_instructions unit.unit.loops))

-- one of these sequencers has more than 65,536 instructions
abbrev pub has_long_sequencer : PortUnit → Bool
has_long_sequencer unit = nat_lt 65536 (most_instructions unit)

-- the first unit with such a sequencer
abbrev pub first_with_long_sequencer : List PortUnit → Option PortUnit
first_with_long_sequencer units = find has_long_sequencer units
