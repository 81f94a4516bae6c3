use Rattle.std.proofs.Common.{length}
use Rattle.tree_order.proofs.absence.+by_rounds.Given as goal

abbrev pub decreases-by_rounds : goal.decreases-by_rounds
decreases-by_rounds l = length l.backs.now
