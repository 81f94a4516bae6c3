use Rattle.std.proofs.Common.{length}
use Rattle.net_maker.proofs.ranges.+terms_fit.Given as goal

abbrev pub decreases-terms_fit : goal.decreases-terms_fit
decreases-terms_fit l = length l.terms.now
