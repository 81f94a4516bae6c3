use Rattle.std.proofs.Common.{length}
use Rattle.tree_cuts.proofs.cuts.+with_cuts.Given as goal

abbrev pub decreases-with_cuts : goal.decreases-with_cuts
decreases-with_cuts l = length l.sources.now
