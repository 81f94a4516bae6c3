use Rattle.std.proofs.Common.{length}
use Rattle.tree_eval.proofs.leaf.+append_values_at.Given as goal

abbrev pub decreases-append_values_at : goal.decreases-append_values_at
decreases-append_values_at l = length l.starts.now
