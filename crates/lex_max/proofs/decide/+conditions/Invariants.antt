use Rattle.std.proofs.Common.{◌+◌, ◌*◌, length}
use Rattle.lex_max.proofs.decide.+conditions.Given as goal

abbrev pub decreases-conditions : goal.decreases-conditions
decreases-conditions l = 2 * length l.cycles.now

abbrev pub decreases-condition : goal.decreases-condition
decreases-condition l = 2 * length l.rest.now + 1
