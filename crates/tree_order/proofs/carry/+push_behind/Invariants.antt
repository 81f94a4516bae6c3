use Rattle.std.proofs.Common.{length}
use Rattle.tree_order.proofs.carry.+push_behind.Given as goal

abbrev pub decreases-push_behind : goal.decreases-push_behind
decreases-push_behind l = length l.terms.now
