use Rattle.std.proofs.Common.{length}
use Rattle.net_maker.proofs.ranges.+proofs_are_within.Given as goal

abbrev pub decreases-proofs_are_within : goal.decreases-proofs_are_within
decreases-proofs_are_within l = length l.proofs.now
