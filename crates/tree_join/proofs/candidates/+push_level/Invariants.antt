use Rattle.std.proofs.Common.{length}
use Rattle.tree_join.proofs.candidates.+push_level.Given as goal

abbrev pub decreases-push_level : goal.decreases-push_level
decreases-push_level l = length l.problems.now
