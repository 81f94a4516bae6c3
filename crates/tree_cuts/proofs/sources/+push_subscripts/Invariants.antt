use Rattle.std.proofs.Common.{length}
use Rattle.tree_cuts.proofs.sources.+push_subscripts.Given as goal

abbrev pub decreases-push_subscripts : goal.decreases-push_subscripts
decreases-push_subscripts l = length l.writes.now
