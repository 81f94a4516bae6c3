use Rattle.std.proofs.Common.{length}
use Rattle.tree_join.proofs.leaf.+push_orders.Given as goal

abbrev pub decreases-push_orders : goal.decreases-push_orders
decreases-push_orders l = length l.equal.now
