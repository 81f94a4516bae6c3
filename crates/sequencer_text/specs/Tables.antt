-- Constant tables of the repeats that end behind each instruction of a sequencer: a value for each instruction, and one more
-- behind them.
use Rattle.std.specs.Prelude.{ℕ, Option, Some, None, List, ◌++◌, codes, decimal, length, map, slice_get}
use Rattle.script_blocks.specs.Nesting.{greatest}
use Rattle.repeat_sequencer.specs.declared.sequencer.Instruction.{Instruction}
use Rattle.repeat_sequencer.specs.declared.sequencer.RepeatEnd.{RepeatEnd}
use Rattle.repeat_sequencer.specs.declared.sequencer.Sequencer.{Sequencer}
use Rattle.vhdl_text.specs.Constants.{constant_text}
use Rattle.sequencer_text.specs.declared.tables.EndColumn.{EndColumn}
use Rattle.sequencer_text.specs.declared.tables.EndColumn.TheVariants.{Level, First, Count}

-- a number of the repeat of place j that ends behind an instruction, or 0 where fewer end there
abbrev pub end_number : EndColumn → RepeatEnd → ℕ
end_number Level end = end.level
end_number First end = end.first
end_number Count end = end.count

abbrev pub number_or_none : EndColumn → Option RepeatEnd → ℕ
number_or_none column None = 0
number_or_none column (Some end) = end_number column end

abbrev pub end_value : {T : Type 0} → EndColumn → ℕ → Instruction T → List ℕ
end_value column j instruction = decimal (number_or_none column (slice_get instruction.ends j))

abbrev pub end_word : EndColumn → List ℕ
end_word Level = codes "level"
end_word First = codes "first"
end_word Count = codes "count"

abbrev pub end_name : EndColumn → ℕ → List ℕ
end_name column j = end_word column ++ decimal j

abbrev pub end_table : {T : Type 0} → EndColumn → ℕ → Sequencer T → List ℕ
end_table column j sequencer =
    constant_text (end_name column j) (codes "codes")
    (map (end_value column j) sequencer.instructions) (codes "1")

-- how many repeats end behind an instruction at most, and how many turns a repeat has at most
abbrev pub ends_behind : {T : Type 0} → Instruction T → ℕ
ends_behind instruction = length instruction.ends

abbrev pub most_ends : {T : Type 0} → Sequencer T → ℕ
most_ends sequencer = greatest (map ends_behind sequencer.instructions)

abbrev pub turns_behind : {T : Type 0} → Instruction T → ℕ
turns_behind instruction = greatest (map (λ end. end.count) instruction.ends)

abbrev pub most_turns : {T : Type 0} → Sequencer T → ℕ
most_turns sequencer = greatest (map turns_behind sequencer.instructions)
