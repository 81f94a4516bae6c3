-- How many items and repeats blocks keep.
use Rattle.std.specs.Prelude.{ℕ, ◌+◌, List}
use Rattle.std.specs.List.{sum, sum_by}
use Rattle.script_blocks.specs.declared.blocks.Blocks.{Blocks}
use Rattle.script_blocks.specs.declared.blocks.BlockPart.{BlockPart}
use Rattle.script_blocks.specs.declared.blocks.BlockPart.TheOpen.{BlockPart-F, Blocks-F, Item, Repeat}
use Rattle.script_blocks.specs.declared.blocks.BlockPart.TheFolds.{fold-BlockPart}

-- an item is one node; a repeat is one, and so are those of its body
abbrev pub count_part : {T : Type 0} → BlockPart-F T ℕ ℕ → ℕ
count_part (Item x) = 1
count_part (Repeat count body) = body + 1

abbrev pub count_list : {T : Type 0} → Blocks-F T ℕ ℕ → ℕ
count_list blocks = sum blocks.parts

abbrev pub part_nodes : {T : Type 0} → BlockPart T → ℕ
part_nodes {T} = fold-BlockPart T ℕ ℕ count_part count_list

abbrev pub parts_nodes : {T : Type 0} → List (BlockPart T) → ℕ
parts_nodes parts = sum_by part_nodes parts

-- the number of items and repeats as they are kept, each counted once
abbrev pub node_count : {T : Type 0} → Blocks T → ℕ
node_count blocks = parts_nodes blocks.parts
