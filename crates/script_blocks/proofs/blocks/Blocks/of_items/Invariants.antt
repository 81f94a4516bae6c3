use Rattle.std.proofs.Common.{◌≡◌, map, take}
use Rattle.script_blocks.specs.declared.blocks.BlockPart.TheVariants.{Item}
use Rattle.script_blocks.specs.Expansion.{parts_expansion}
use Rattle.script_blocks.specs.Nodes.{parts_nodes}
use Rattle.script_blocks.proofs.blocks.Blocks.of_items.Given as goal

abbrev pub invariant-loop-item : goal.invariant-loop-item
invariant-loop-item g l =
    (l.parts ≡ map Item (take l.item-index l.items))
    × (parts_expansion l.parts ≡ take l.item-index l.items)
    × (parts_nodes l.parts ≡ l.item-index)
