use Rattle.std.proofs.Common.{length}
use Rattle.tree_graphs.proofs.edges.+variable_with.Given as goal

abbrev pub decreases-variable_with : goal.decreases-variable_with
decreases-variable_with l = length l.coefs.now
