use Rattle.std.proofs.Common.{length}
use Rattle.tree_graphs.proofs.facts.+row_with.Given as goal

abbrev pub decreases-row_with : goal.decreases-row_with
decreases-row_with l = length l.rows.now
