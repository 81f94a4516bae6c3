use Rattle.std.proofs.Common.{length}
use Rattle.tree_graphs.proofs.cycles.+push_cycles.Given as goal

abbrev pub decreases-push_cycles : goal.decreases-push_cycles
decreases-push_cycles l = length l.edges.now
