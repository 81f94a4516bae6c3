use Rattle.std.proofs.Common.{length}
use Rattle.tree_graphs.proofs.terms.+append.Given as goal

abbrev pub decreases-append : goal.decreases-append
decreases-append l = length l.terms.now
