use Rattle.std.proofs.Common.{length}
use Rattle.stride_trees.proofs.common_divisors.+common_divisor.Given as goal

abbrev pub decreases-common_divisor : goal.decreases-common_divisor
decreases-common_divisor l = length l.values.now
