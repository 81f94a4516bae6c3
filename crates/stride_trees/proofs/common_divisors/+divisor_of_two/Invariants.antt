use Rattle.std.proofs.Common.{unsigned_abs}
use Rattle.stride_trees.proofs.common_divisors.+divisor_of_two.Given as goal

abbrev pub decreases-divisor_of_two : goal.decreases-divisor_of_two
decreases-divisor_of_two l = unsigned_abs l.first
