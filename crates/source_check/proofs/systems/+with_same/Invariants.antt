use Rattle.std.proofs.Common.{length}
use Rattle.source_check.proofs.systems.+with_same.Given as goal

abbrev pub decreases-with_same : goal.decreases-with_same
decreases-with_same l = length l.first.now
