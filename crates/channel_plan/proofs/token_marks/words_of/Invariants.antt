use Rattle.channel_plan.proofs.MarkBits.{HasMarks}
use Rattle.channel_plan.proofs.token_marks.words_of.Given as goal

abbrev pub invariant-loop-turn : goal.invariant-loop-turn
invariant-loop-turn l = HasMarks l.marks l.turn l.words.items
