use Rattle.std.proofs.Common.{length}
use Rattle.tree_bounds.proofs.forms.+sum_bound.Given as goal

abbrev pub decreases-sum_bound : goal.decreases-sum_bound
decreases-sum_bound l = length l.coefs.now
