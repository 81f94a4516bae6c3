use Rattle.std.proofs.Common.{length}
use Rattle.tree_facts.proofs.search.+without_all.Given as goal

abbrev pub decreases-without_all : goal.decreases-without_all
decreases-without_all l = length l.answers.now
