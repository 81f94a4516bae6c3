use Rattle.std.proofs.Common.{length}
use Rattle.tree_facts.proofs.search.+push_of_row.Given as goal

abbrev pub decreases-push_of_row : goal.decreases-push_of_row
decreases-push_of_row l = length l.answers.now
