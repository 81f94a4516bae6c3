use Rattle.std.proofs.Common.{length}
use Rattle.tree_join.proofs.leaf.+excluded_of.Given as goal

abbrev pub decreases-excluded_of : goal.decreases-excluded_of
decreases-excluded_of l = length l.excluded.now
