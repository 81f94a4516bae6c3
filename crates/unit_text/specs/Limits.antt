-- Which sequencers are too long for a design.
use Rattle.std.specs.Prelude.{ℕ, max, nat_lt, Bool, List, Option, length, map}
use Rattle.std.specs.List.{find}
use Rattle.script_blocks.specs.Nesting.{greatest}
use Rattle.unit_text.specs.declared.unit.LoopCounter.{LoopCounter}
use Rattle.unit_text.specs.declared.unit.Unit.{Unit}

-- how many instructions the sequencer of what a loop gains has
abbrev pub gain_instructions : LoopCounter → ℕ
gain_instructions counter = length counter.gains.instructions

-- how many instructions the longest sequencer of a unit has: that of its script, or of what one of its loops gains
abbrev pub most_instructions : Unit → ℕ
most_instructions unit =
    max (length unit.control.instructions) (greatest (map gain_instructions unit.loops))

-- a sequencer of a unit has more than 65,536 instructions
abbrev pub has_long_sequencer : Unit → Bool
has_long_sequencer unit = nat_lt 65536 (most_instructions unit)

abbrev pub first_with_long_sequencer : List Unit → Option Unit
first_with_long_sequencer units = find has_long_sequencer units
