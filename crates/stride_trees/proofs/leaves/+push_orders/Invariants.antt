use Rattle.std.proofs.Common.{length}
use Rattle.stride_trees.proofs.leaves.+push_orders.Given as goal

abbrev pub decreases-push_orders : goal.decreases-push_orders
decreases-push_orders l = length l.orders.now
