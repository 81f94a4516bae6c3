use Rattle.std.proofs.Common.{length}
use Rattle.source_check.proofs.systems.+with_cell.Given as goal

abbrev pub decreases-with_cell : goal.decreases-with_cell
decreases-with_cell l = length l.writes.now
