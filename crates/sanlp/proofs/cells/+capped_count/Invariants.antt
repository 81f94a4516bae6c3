use Rattle.std.proofs.Common.{length}
use Rattle.sanlp.proofs.cells.+capped_count.Given as goal

abbrev pub decreases-capped_count : goal.decreases-capped_count
decreases-capped_count l = length l.extents.now
