use Rattle.std.proofs.Common.{length}
use Rattle.loop_bind.proofs.terminals.+loops_of.Given as goal

abbrev pub decreases-loops_of : goal.decreases-loops_of
decreases-loops_of l = length l.extents.now
