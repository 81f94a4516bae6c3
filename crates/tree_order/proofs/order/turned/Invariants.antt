use Rattle.std.proofs.Common.{◌≡◌, take}
use Rattle.tree_order.specs.Orders.{turned_equal}
use Rattle.tree_order.proofs.order.turned.Given as goal

abbrev pub invariant-loop-one : goal.invariant-loop-one
invariant-loop-one l = l.turned ≡ turned_equal (take l.one-index l.equal)
