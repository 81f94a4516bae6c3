use Rattle.std.proofs.Common.{length}
use Rattle.tree_facts.proofs.sums.+sum_onto.Given as goal

abbrev pub decreases-sum_onto : goal.decreases-sum_onto
decreases-sum_onto l = length l.terms.now
