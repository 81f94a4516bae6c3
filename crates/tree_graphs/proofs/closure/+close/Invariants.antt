use Rattle.std.proofs.Common.{◌-◌}
use Rattle.tree_graphs.proofs.closure.+close.Given as goal

abbrev pub decreases-close : goal.decreases-close
decreases-close l = l.depth - l.middle
