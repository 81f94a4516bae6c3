use Rattle.std.proofs.Common.{length}
use Rattle.tree_cuts.proofs.class.+stride_count.Given as goal

abbrev pub decreases-stride_count : goal.decreases-stride_count
decreases-stride_count l = length l.subscripts.now
