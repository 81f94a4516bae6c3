use Rattle.std.proofs.Common.{length}
use Rattle.source_check.proofs.tested.+test_cell.Given as goal

abbrev pub decreases-test_cell : goal.decreases-test_cell
decreases-test_cell l = length l.writes.now
