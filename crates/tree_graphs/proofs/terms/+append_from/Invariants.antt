use Rattle.std.proofs.Common.{length}
use Rattle.tree_graphs.proofs.terms.+append_from.Given as goal

abbrev pub decreases-append_from : goal.decreases-append_from
decreases-append_from l = length l.terms.now
