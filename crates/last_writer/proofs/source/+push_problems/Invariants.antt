use Rattle.std.proofs.Common.{length}
use Rattle.last_writer.proofs.source.+push_problems.Given as goal

abbrev pub decreases-push_problems : goal.decreases-push_problems
decreases-push_problems l = length l.writers.now
