-- Constant tables of what each instruction of a process's sequencer does: a value for each instruction, and one more behind
-- them. The fires aren't numbered: each has the number 0.
use Rattle.std.specs.Prelude.{ℕ, List, codes, map}
use Rattle.net_core.specs.declared.network.Event.{Event}
use Rattle.repeat_sequencer.specs.declared.sequencer.Sequencer.{Sequencer}
use Rattle.vhdl_text.specs.declared.constants.Column.{Column}
use Rattle.vhdl_text.specs.declared.constants.Column.TheVariants.{Op, Arg, Dst, Read}
use Rattle.vhdl_text.specs.Constants.{constant_text, name_of}
use Rattle.vhdl_text.specs.Pieces.{event_value}

-- The value behind the last one is that of the place at the end, where 4 in place of the kind of an event says so. No such
-- value is 0, since a tool makes zeros of a table of which only the first value isn't 0.
abbrev pub last_value : Column → List ℕ
last_value Op = codes "4"
last_value Arg = codes "1"
last_value Dst = codes "1"
last_value (Read k) = codes "-1"

abbrev pub event_table : Column → Sequencer Event → List ℕ
event_table column sequencer =
    constant_text (name_of column) (codes "codes")
    (map (λ i. event_value column 0 i.item) sequencer.instructions) (last_value column)
