use Rattle.std.proofs.Common.{length}
use Rattle.tree_sums.proofs.replace.+append_carried.Given as goal

abbrev pub decreases-append_carried : goal.decreases-append_carried
decreases-append_carried l = length l.terms.now
