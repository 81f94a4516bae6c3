use Rattle.std.proofs.Common.{length}
use Rattle.tree_cuts.proofs.sources.+has_less.Given as goal

abbrev pub decreases-has_less : goal.decreases-has_less
decreases-has_less l = length l.coefs.now
