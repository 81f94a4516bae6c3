use Rattle.std.proofs.Common.{length}
use Rattle.sanlp.proofs.order.+common_loops.Given as goal

abbrev pub decreases-common_loops : goal.decreases-common_loops
decreases-common_loops l = length l.first.now
