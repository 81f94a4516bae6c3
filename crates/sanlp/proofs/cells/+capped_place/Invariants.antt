use Rattle.std.proofs.Common.{length}
use Rattle.sanlp.proofs.cells.+capped_place.Given as goal

abbrev pub decreases-capped_place : goal.decreases-capped_place
decreases-capped_place l = length l.extents.now
