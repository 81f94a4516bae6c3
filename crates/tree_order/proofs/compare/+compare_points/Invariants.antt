use Rattle.std.proofs.Common.{◌-◌, length}
use Rattle.tree_order.proofs.compare.+compare_points.Given as goal

abbrev pub decreases-compare_points : goal.decreases-compare_points
decreases-compare_points l = l.pair.now.common - length l.compared.equal
