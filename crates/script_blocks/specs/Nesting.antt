-- How deep repeats nest, and which of them are proper.
use Rattle.std.specs.Prelude.{ℕ, ◌+◌, max, nat_le, Bool, true, false, ◌&&◌, List, [], ◌∷◌, map}
use Rattle.std.specs.List.{list_all}
use Rattle.script_blocks.specs.declared.blocks.Blocks.{Blocks}
use Rattle.script_blocks.specs.declared.blocks.BlockPart.{BlockPart}
use Rattle.script_blocks.specs.declared.blocks.BlockPart.TheOpen.{BlockPart-F, Blocks-F, Item, Repeat}
use Rattle.script_blocks.specs.declared.blocks.BlockPart.TheFolds.{fold-BlockPart}

-- the greatest of these numbers, or 0 where there is none
abbrev pub greatest : List ℕ → ℕ
greatest [] = 0
greatest (n ∷ ns) = max n (greatest ns)

-- a repeat nests one deeper than its body
abbrev pub nest_part : {T : Type 0} → BlockPart-F T ℕ ℕ → ℕ
nest_part (Item x) = 0
nest_part (Repeat count body) = body + 1

abbrev pub nest_list : {T : Type 0} → Blocks-F T ℕ ℕ → ℕ
nest_list blocks = greatest blocks.parts

abbrev pub part_nesting : {T : Type 0} → BlockPart T → ℕ
part_nesting {T} = fold-BlockPart T ℕ ℕ nest_part nest_list

abbrev pub parts_nesting : {T : Type 0} → List (BlockPart T) → ℕ
parts_nesting parts = greatest (map part_nesting parts)

-- how deep the repeats nest: 0 where there is none, 1 where none stands in another
abbrev pub nesting : {T : Type 0} → Blocks T → ℕ
nesting blocks = parts_nesting blocks.parts

-- a body has a part, and its parts are proper
abbrev pub is_body : List Bool → Bool
is_body [] = false
is_body (part ∷ parts) = part && list_all (λ b. b) parts

-- a repeat is proper where its count is at least 2 and its body has a part, and so for each repeat in it
abbrev pub check_part : {T : Type 0} → BlockPart-F T Bool Bool → Bool
check_part (Item x) = true
check_part (Repeat count body) = nat_le 2 count && body

abbrev pub check_list : {T : Type 0} → Blocks-F T Bool Bool → Bool
check_list blocks = is_body blocks.parts

abbrev pub is_proper_part : {T : Type 0} → BlockPart T → Bool
is_proper_part {T} = fold-BlockPart T Bool Bool check_part check_list

abbrev pub are_proper : {T : Type 0} → List (BlockPart T) → Bool
are_proper parts = list_all is_proper_part parts

-- each repeat has a count of at least 2 and a body with a part
abbrev pub is_proper : {T : Type 0} → Blocks T → Bool
is_proper blocks = are_proper blocks.parts
