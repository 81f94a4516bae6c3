use Rattle.std.proofs.Common.{length}
use Rattle.tree_cuts.proofs.cuts.+push_renumbered.Given as goal

abbrev pub decreases-push_renumbered : goal.decreases-push_renumbered
decreases-push_renumbered l = length l.terms.now
