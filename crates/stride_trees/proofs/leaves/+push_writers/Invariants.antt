use Rattle.std.proofs.Common.{length}
use Rattle.stride_trees.proofs.leaves.+push_writers.Given as goal

abbrev pub decreases-push_writers : goal.decreases-push_writers
decreases-push_writers l = length l.writers.now
