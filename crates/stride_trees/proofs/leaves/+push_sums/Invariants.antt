use Rattle.std.proofs.Common.{length}
use Rattle.stride_trees.proofs.leaves.+push_sums.Given as goal

abbrev pub decreases-push_sums : goal.decreases-push_sums
decreases-push_sums l = length l.counts.now
