-- How many items blocks keep, and how many repeats end in a sequencer.
use Rattle.std.specs.Prelude.{ℕ, length}
use Rattle.std.specs.List.{sum, sum_by}
use Rattle.script_blocks.specs.declared.blocks.Blocks.{Blocks}
use Rattle.script_blocks.specs.declared.blocks.BlockPart.{BlockPart}
use Rattle.script_blocks.specs.declared.blocks.BlockPart.TheOpen.{BlockPart-F, Blocks-F, Item, Repeat}
use Rattle.script_blocks.specs.declared.blocks.BlockPart.TheFolds.{fold-BlockPart}
use Rattle.repeat_sequencer.specs.declared.sequencer.Sequencer.{Sequencer}

-- an item is one, and a repeat has those of its body, however often it repeats
abbrev pub items_of : {T : Type 0} → BlockPart-F T ℕ ℕ → ℕ
items_of (Item x) = 1
items_of (Repeat count body) = body

-- a list has those of its parts
abbrev pub items_of_list : {T : Type 0} → Blocks-F T ℕ ℕ → ℕ
items_of_list blocks = sum blocks.parts

-- the number of items that a part keeps
abbrev pub part_items : {T : Type 0} → BlockPart T → ℕ
part_items {T} = fold-BlockPart T ℕ ℕ items_of items_of_list

-- the number of items as they are kept, each counted once
abbrev pub item_count : {T : Type 0} → Blocks T → ℕ
item_count blocks = sum_by part_items blocks.parts

-- how many repeats end behind its instructions, each counted behind the instruction at which it ends
abbrev pub end_count : {T : Type 0} → Sequencer T → ℕ
end_count sequencer = sum_by (λ i. length i.ends) sequencer.instructions
