use Rattle.std.proofs.Common.{length}
use Rattle.lex_max.proofs.leaf.+push_cell.Given as goal

abbrev pub decreases-push_cell : goal.decreases-push_cell
decreases-push_cell l = length l.certs.now
