use Rattle.std.proofs.Common.{length}
use Rattle.tree_join.proofs.path.+choose.Given as goal

abbrev pub decreases-choose : goal.decreases-choose
decreases-choose l = length l.left.now
