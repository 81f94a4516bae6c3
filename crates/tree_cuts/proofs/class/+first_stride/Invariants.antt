use Rattle.std.proofs.Common.{length}
use Rattle.tree_cuts.proofs.class.+first_stride.Given as goal

abbrev pub decreases-first_stride : goal.decreases-first_stride
decreases-first_stride l = length l.coefs.now
