use Rattle.std.proofs.Common.{length}
use Rattle.tree_eval.proofs.leaf.+are_values_at.Given as goal

abbrev pub decreases-are_values_at : goal.decreases-are_values_at
decreases-are_values_at l = length l.starts.now
