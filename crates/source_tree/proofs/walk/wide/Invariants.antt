use Rattle.std.proofs.Common.{◌≡◌, take}
use Rattle.source_tree.proofs.walk.wide.Given as goal

abbrev pub invariant-loop-value : goal.invariant-loop-value
invariant-loop-value l = l.values ≡ take l.value-index l.value-items
