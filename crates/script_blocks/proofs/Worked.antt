-- Worked rows, computed from the definitions.
use Rattle.std.proofs.Common.{◌≡◌, ℕ, [], ◌∷◌, true}
use Rattle.script_blocks.specs.declared.blocks.Blocks.{Blocks}
use Rattle.script_blocks.specs.declared.blocks.BlockPart.TheViews.{Repeat}
use Rattle.script_blocks.specs.declared.blocks.BlockPart.TheVariants.{Item}
use Rattle.script_blocks.specs.Expansion.{expansion, repeated}
use Rattle.script_blocks.specs.Nodes.{node_count}
use Rattle.script_blocks.specs.Nesting.{nesting, is_proper}
use Rattle.script_blocks.proofs.Expansions.{expansion_item, expansion_repeat, nodes_item, nodes_repeat, nesting_item}
use Rattle.script_blocks.proofs.Expansions.{nesting_repeat, proper_item, proper_repeat}

-- two times the items 1, 2, and then 3
abbrev row : Blocks ℕ
row = record { parts = Repeat 2 (record { parts = Item 1 ∷ Item 2 ∷ [] }) ∷ Item 3 ∷ [] }

row_expands : expansion row ≡ 1 ∷ 2 ∷ 1 ∷ 2 ∷ 3 ∷ []
unfolding repeated
row_expands = simp (expansion_repeat, expansion_item)

row_has_four_nodes : node_count row ≡ 4
row_has_four_nodes = simp (nodes_repeat, nodes_item)

row_nests_once : nesting row ≡ 1
row_nests_once = simp (nesting_repeat, nesting_item)

row_is_proper : is_proper row ≡ true
row_is_proper = simp (proper_repeat, proper_item)
