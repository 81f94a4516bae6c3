use Rattle.std.proofs.Common.{◌+◌, ◌*◌, length}
use Rattle.lex_max.proofs.decide.+confirm.Given as goal

abbrev pub decreases-confirm : goal.decreases-confirm
decreases-confirm l = 2 * length l.edges.now

abbrev pub decreases-confirm_above : goal.decreases-confirm_above
decreases-confirm_above l = 2 * length l.edges.now + 1
