use Rattle.std.proofs.Common.{length}
use Rattle.lex_max.proofs.zeros.+refuted_leaf.Given as goal

abbrev pub decreases-refuted_leaf : goal.decreases-refuted_leaf
decreases-refuted_leaf l = length l.cycles.now
