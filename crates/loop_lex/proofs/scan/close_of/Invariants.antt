use Rattle.loop_lex.proofs.CommentEnds.{Shifts, NoneUpTo}
use Rattle.loop_lex.proofs.scan.close_of.Given as goal

abbrev pub invariant-loop-i : goal.invariant-loop-i
invariant-loop-i l = Shifts l.body l.i × NoneUpTo l.body l.i
