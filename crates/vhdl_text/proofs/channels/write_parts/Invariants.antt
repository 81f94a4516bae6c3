use Rattle.std.proofs.Common.{take}
use Rattle.text_out.specs.Wrote.{Wrote}
use Rattle.vhdl_text.specs.Channels.{parts_text}
use Rattle.vhdl_text.proofs.channels.write_parts.Given as goal

-- the parts so far were written
abbrev pub invariant-loop-channel : goal.invariant-loop-channel
invariant-loop-channel g l =
    Wrote g.W.TextWriter.given l.fn.out l.out (parts_text l.fn.part l.fn.auto (take l.channel-index l.channels))
