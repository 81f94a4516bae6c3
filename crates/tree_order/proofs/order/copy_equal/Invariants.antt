use Rattle.std.proofs.Common.{◌≡◌, take}
use Rattle.tree_order.proofs.order.copy_equal.Given as goal

abbrev pub invariant-loop-one : goal.invariant-loop-one
invariant-loop-one l = l.copies ≡ take l.one-index l.equal
