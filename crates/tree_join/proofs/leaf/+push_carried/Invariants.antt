use Rattle.std.proofs.Common.{length}
use Rattle.tree_join.proofs.leaf.+push_carried.Given as goal

abbrev pub decreases-push_carried : goal.decreases-push_carried
decreases-push_carried l = length l.own.now
