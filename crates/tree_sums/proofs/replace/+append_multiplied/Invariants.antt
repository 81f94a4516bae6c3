use Rattle.std.proofs.Common.{length}
use Rattle.tree_sums.proofs.replace.+append_multiplied.Given as goal

abbrev pub decreases-append_multiplied : goal.decreases-append_multiplied
decreases-append_multiplied l = length l.terms.now
