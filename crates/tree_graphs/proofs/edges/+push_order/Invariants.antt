use Rattle.std.proofs.Common.{◌-◌}
use Rattle.tree_graphs.proofs.edges.+push_order.Given as goal

abbrev pub decreases-push_order : goal.decreases-push_order
decreases-push_order l = l.w.now.common - l.from
