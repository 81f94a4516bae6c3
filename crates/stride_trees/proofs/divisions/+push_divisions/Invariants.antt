use Rattle.std.proofs.Common.{length}
use Rattle.stride_trees.proofs.divisions.+push_divisions.Given as goal

abbrev pub decreases-push_divisions : goal.decreases-push_divisions
decreases-push_divisions l = length l.writes.now
