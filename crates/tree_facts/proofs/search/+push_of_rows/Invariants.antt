use Rattle.std.proofs.Common.{length}
use Rattle.tree_facts.proofs.search.+push_of_rows.Given as goal

abbrev pub decreases-push_of_rows : goal.decreases-push_of_rows
decreases-push_of_rows l = length l.rows.now
