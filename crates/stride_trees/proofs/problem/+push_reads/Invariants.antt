use Rattle.std.proofs.Common.{length}
use Rattle.stride_trees.proofs.problem.+push_reads.Given as goal

abbrev pub decreases-push_reads : goal.decreases-push_reads
decreases-push_reads l = length l.writes.now
