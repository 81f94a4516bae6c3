use Rattle.std.proofs.Common.{length}
use Rattle.stride_trees.proofs.convert.+push_outside.Given as goal

abbrev pub decreases-push_outside : goal.decreases-push_outside
decreases-push_outside l = length l.rows.now
