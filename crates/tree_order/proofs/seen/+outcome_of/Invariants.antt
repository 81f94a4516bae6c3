use Rattle.std.proofs.Common.{length}
use Rattle.tree_order.proofs.seen.+outcome_of.Given as goal

abbrev pub decreases-outcome_of : goal.decreases-outcome_of
decreases-outcome_of l = length l.seen.now
