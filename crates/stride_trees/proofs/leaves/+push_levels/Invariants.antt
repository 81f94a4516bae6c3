use Rattle.std.proofs.Common.{length}
use Rattle.stride_trees.proofs.leaves.+push_levels.Given as goal

abbrev pub decreases-push_levels : goal.decreases-push_levels
decreases-push_levels l = length l.levels.now
