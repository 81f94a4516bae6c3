use Rattle.std.proofs.Common.{length}
use Rattle.source_check.proofs.systems.+with_taken.Given as goal

abbrev pub decreases-with_taken : goal.decreases-with_taken
decreases-with_taken l = length l.rows.now
