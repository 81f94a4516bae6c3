use Rattle.std.proofs.Common.{length}
use Rattle.source_check.proofs.systems.+with_domain.Given as goal

abbrev pub decreases-with_domain : goal.decreases-with_domain
decreases-with_domain l = length l.rows.now
