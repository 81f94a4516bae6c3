use Rattle.std.proofs.Common.{length}
use Rattle.tree_order.proofs.absence.+by_cycles.Given as goal

abbrev pub decreases-by_cycles : goal.decreases-by_cycles
decreases-by_cycles l = length l.cycles.now
