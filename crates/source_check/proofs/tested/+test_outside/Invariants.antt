use Rattle.std.proofs.Common.{length}
use Rattle.source_check.proofs.tested.+test_outside.Given as goal

abbrev pub decreases-test_outside : goal.decreases-test_outside
decreases-test_outside l = length l.rows.now
