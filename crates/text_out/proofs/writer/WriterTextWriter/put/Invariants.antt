use Rattle.std.proofs.Common.{◌≤◌, length, ◌-◌, take}
use Rattle.text_out.specs.Wrote.{Wrote}
use Rattle.text_out.specs.Writer.{given_of}
use Rattle.text_out.proofs.writer.WriterTextWriter.put.Given as goal

-- the front so far was written
abbrev pub invariant-loop-at : goal.invariant-loop-at
invariant-loop-at g l = (l.at ≤ length l.piece) × Wrote (given_of g.K.Sink) l.fn.self l.self (take l.at l.piece)

abbrev pub decreases-loop-at : goal.decreases-loop-at
decreases-loop-at g l = length l.piece - l.at
