use Rattle.std.proofs.Common.{take}
use Rattle.text_out.specs.Wrote.{Wrote}
use Rattle.trim_text.specs.TrimText.{channel_lines}
use Rattle.trim_text.proofs.writing.write_channels.Given as goal

-- the lines so far were written
abbrev pub invariant-loop-number : goal.invariant-loop-number
invariant-loop-number g l =
    Wrote g.W.TextWriter.given l.fn.out l.out (channel_lines (take l.number l.capacities) l.rests)
