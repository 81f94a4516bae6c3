use Rattle.std.proofs.Common.{length}
use Rattle.tree_order.proofs.absence.+push_order_edges.Given as goal

abbrev pub decreases-push_order_edges : goal.decreases-push_order_edges
decreases-push_order_edges l = length l.place.now
