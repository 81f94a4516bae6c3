use Rattle.std.proofs.Common.{length}
use Rattle.stride_trees.proofs.tests.+with_tests.Given as goal

abbrev pub decreases-with_tests : goal.decreases-with_tests
decreases-with_tests l = length l.divisions.now
