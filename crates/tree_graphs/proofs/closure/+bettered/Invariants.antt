use Rattle.std.proofs.Common.{length}
use Rattle.tree_graphs.proofs.closure.+bettered.Given as goal

abbrev pub decreases-bettered : goal.decreases-bettered
decreases-bettered l = length l.edges.now
