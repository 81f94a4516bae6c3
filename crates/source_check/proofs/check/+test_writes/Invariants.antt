use Rattle.std.proofs.Common.{length}
use Rattle.source_check.proofs.check.+test_writes.Given as goal

abbrev pub decreases-test_writes : goal.decreases-test_writes
decreases-test_writes l = length l.statements.now
