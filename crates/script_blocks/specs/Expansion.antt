-- What blocks stand for.
use Rattle.std.specs.Prelude.{ℕ, zero, suc, List, [], ◌∷◌, ◌++◌}
use Rattle.std.specs.List.{flat_map}
use Rattle.script_blocks.specs.declared.blocks.Blocks.{Blocks}
use Rattle.script_blocks.specs.declared.blocks.BlockPart.{BlockPart}
use Rattle.script_blocks.specs.declared.blocks.BlockPart.TheOpen.{BlockPart-F, Blocks-F, Item, Repeat}
use Rattle.script_blocks.specs.declared.blocks.BlockPart.TheFolds.{fold-BlockPart}

-- so many copies of a list, one after the other
unfoldable pub repeated : {T : Type 0} → ℕ → List T → List T
repeated zero xs = []
repeated (suc count) xs = xs ++ repeated count xs

-- an item expands to itself, a repeat to so many expansions of its body
abbrev pub expand_part : {T : Type 0} → BlockPart-F T (List T) (List T) → List T
expand_part (Item x) = x ∷ []
expand_part (Repeat count body) = repeated count body

-- a list expands to its parts in order
abbrev pub expand_list : {T : Type 0} → Blocks-F T (List T) (List T) → List T
expand_list blocks = flat_map (λ part. part) blocks.parts

abbrev pub part_expansion : {T : Type 0} → BlockPart T → List T
part_expansion {T} = fold-BlockPart T (List T) (List T) expand_part expand_list

abbrev pub parts_expansion : {T : Type 0} → List (BlockPart T) → List T
parts_expansion parts = flat_map part_expansion parts

-- an item expands to itself, a repeat to so many expansions of its body, a list to its parts in order
abbrev pub expansion : {T : Type 0} → Blocks T → List T
expansion blocks = parts_expansion blocks.parts
