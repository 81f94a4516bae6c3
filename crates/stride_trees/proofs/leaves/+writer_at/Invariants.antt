use Rattle.std.proofs.Common.{length}
use Rattle.stride_trees.proofs.leaves.+writer_at.Given as goal

abbrev pub decreases-writer_at : goal.decreases-writer_at
decreases-writer_at l = length l.writers.now
