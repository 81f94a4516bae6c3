use Rattle.std.proofs.Common.{◌≡◌, min, take}
use Rattle.script_blocks.specs.Nodes.{parts_nodes}
use Rattle.script_blocks.proofs.blocks.+nodes.Given as goal

abbrev pub invariant-count_nodes-loop-part : goal.invariant-count_nodes-loop-part
invariant-count_nodes-loop-part g l = l.count ≡ min (parts_nodes (take l.part-index l.parts)) 18446744073709551615
