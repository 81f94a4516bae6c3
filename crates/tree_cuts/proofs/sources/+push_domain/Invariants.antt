use Rattle.std.proofs.Common.{length}
use Rattle.tree_cuts.proofs.sources.+push_domain.Given as goal

abbrev pub decreases-push_domain : goal.decreases-push_domain
decreases-push_domain l = length l.rows.now
