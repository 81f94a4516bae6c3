use Rattle.std.proofs.Common.{length}
use Rattle.source_check.proofs.make.+with_terms.Given as goal

abbrev pub decreases-with_terms : goal.decreases-with_terms
decreases-with_terms l = length l.coefs.now
