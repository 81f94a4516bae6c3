use Rattle.std.proofs.Common.{length}
use Rattle.stride_trees.proofs.problem.+loop_of.Given as goal

abbrev pub decreases-loop_of : goal.decreases-loop_of
decreases-loop_of l = length l.coefs.now
