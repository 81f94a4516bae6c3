use Rattle.std.proofs.Common.{length}
use Rattle.net_maker.proofs.ranges.+numbers_fit.Given as goal

abbrev pub decreases-numbers_fit : goal.decreases-numbers_fit
decreases-numbers_fit l = length l.numbers.now
