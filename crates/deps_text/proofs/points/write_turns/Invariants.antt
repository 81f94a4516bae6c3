use Rattle.std.proofs.Common.{take}
use Rattle.text_out.specs.Wrote.{Wrote}
use Rattle.deps_text.specs.FireLines.{turn_lines}
use Rattle.deps_text.proofs.points.write_turns.Given as goal

-- the lines so far were written
abbrev pub invariant-loop-turn : goal.invariant-loop-turn
invariant-loop-turn g l =
    Wrote g.W.TextWriter.given l.fn.out l.out (turn_lines l.points.of l.reader (take l.turn l.sources))
