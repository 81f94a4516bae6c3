-- The instructions of blocks.
use Rattle.std.specs.Prelude.{ℕ, ◌+◌, List, [], ◌∷◌, ◌++◌, length, map}
use Rattle.script_blocks.specs.declared.blocks.Blocks.{Blocks}
use Rattle.script_blocks.specs.declared.blocks.BlockPart.{BlockPart}
use Rattle.script_blocks.specs.declared.blocks.BlockPart.TheOpen.{BlockPart-F, Blocks-F, Item, Repeat}
use Rattle.script_blocks.specs.declared.blocks.BlockPart.TheFolds.{fold-BlockPart}
use Rattle.script_blocks.specs.Nesting.{nesting}
use Rattle.repeat_sequencer.specs.declared.sequencer.Instruction.{Instruction}
use Rattle.repeat_sequencer.specs.declared.sequencer.RepeatEnd.{RepeatEnd}
use Rattle.repeat_sequencer.specs.declared.sequencer.Sequencer.{Sequencer}

-- instructions at a level of nesting, the first with a number, and with the repeats that end behind the last
abbrev pub Code : Type 0 → Type 0
Code T = ℕ → ℕ → List RepeatEnd → List (Instruction T)

-- parts follow one another, and behind the last of them the repeats end
unfoldable pub in_order : {T : Type 0} → List (Code T) → Code T
in_order [] level first ends = []
in_order (code ∷ []) level first ends = code level first ends
in_order (code ∷ (next ∷ codes)) level first ends =
    code level first []
    ++ in_order (next ∷ codes) level (first + length (code level first [])) ends

-- an item is an instruction; a repeat is its body one level deeper, behind which it is the first that ends
abbrev pub code_of : {T : Type 0} → BlockPart-F T (Code T) (Code T) → Code T
code_of (Item x) level first ends = record { item = x; ends = ends } ∷ []
code_of (Repeat count body) level first ends =
    body (level + 1) first (record { level = level; first = first; count = count } ∷ ends)

-- the instructions of a list are those of its parts in order
abbrev pub code_of_list : {T : Type 0} → Blocks-F T (Code T) (Code T) → Code T
code_of_list blocks = in_order blocks.parts

-- the instructions of a part
abbrev pub part_code : {T : Type 0} → BlockPart T → Code T
part_code {T} = fold-BlockPart T (Code T) (Code T) code_of code_of_list

-- the instructions of a list of parts
abbrev pub parts_code : {T : Type 0} → List (BlockPart T) → Code T
parts_code parts = in_order (map part_code parts)

-- the instructions of blocks from number 0 on, and a counter for each level of nesting
abbrev pub sequencer_of : {T : Type 0} → Blocks T → Sequencer T
sequencer_of blocks = record {
  levels = nesting blocks;
  instructions = parts_code blocks.parts 0 0 [];
}
