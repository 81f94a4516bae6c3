use Rattle.std.proofs.Common.{length}
use Rattle.tree_order.proofs.order.+push_equal.Given as goal

abbrev pub decreases-push_equal : goal.decreases-push_equal
decreases-push_equal l = length l.first.now
