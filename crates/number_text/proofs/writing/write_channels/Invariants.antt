use Rattle.std.proofs.Common.{take}
use Rattle.text_out.specs.Wrote.{Wrote}
use Rattle.number_text.specs.Numbers.{channel_texts}
use Rattle.number_text.proofs.writing.write_channels.Given as goal

-- the lines so far were written
abbrev pub invariant-loop-number : goal.invariant-loop-number
invariant-loop-number g l = Wrote g.W.TextWriter.given l.fn.out l.out (channel_texts (take l.number l.channels))
