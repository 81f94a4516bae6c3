use Rattle.std.proofs.Common.{length}
use Rattle.tree_cuts.proofs.class.+all_write_strides.Given as goal

abbrev pub decreases-all_write_strides : goal.decreases-all_write_strides
decreases-all_write_strides l = length l.statements.now
