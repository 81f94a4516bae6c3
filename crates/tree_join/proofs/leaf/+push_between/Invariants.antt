use Rattle.std.proofs.Common.{length}
use Rattle.tree_join.proofs.leaf.+push_between.Given as goal

abbrev pub decreases-push_between : goal.decreases-push_between
decreases-push_between l = length l.problems.now
