use Rattle.std.proofs.Common.{length}
use Rattle.tree_order.proofs.absence.+by_outs.Given as goal

abbrev pub decreases-by_outs : goal.decreases-by_outs
decreases-by_outs l = length l.outs.now
