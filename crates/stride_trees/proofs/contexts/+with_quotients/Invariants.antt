use Rattle.std.proofs.Common.{length}
use Rattle.stride_trees.proofs.contexts.+with_quotients.Given as goal

abbrev pub decreases-with_quotients : goal.decreases-with_quotients
decreases-with_quotients l = length l.divisions.now
