use Rattle.std.proofs.Common.{length}
use Rattle.stride_trees.proofs.leaves.+first_no.Given as goal

abbrev pub decreases-first_no : goal.decreases-first_no
decreases-first_no l = length l.places.now
