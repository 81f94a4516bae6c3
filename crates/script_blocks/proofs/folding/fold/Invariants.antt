use Rattle.std.proofs.Common.{◌≡◌, take}
use Rattle.script_blocks.proofs.folding.fold.Given as goal

abbrev pub invariant-loop-item : goal.invariant-loop-item
invariant-loop-item g l = l.builder ≡ take l.item-index l.items
