use Rattle.std.proofs.Common.{take}
use Rattle.std.specs.List.{enumerate_from, flat_map}
use Rattle.text_out.specs.Wrote.{Wrote}
use Rattle.rtl_text.specs.Networks.{channel_part_text}
use Rattle.rtl_text.proofs.network.write_for_channels.Given as goal

-- those so far were written
abbrev pub invariant-loop-number : goal.invariant-loop-number
invariant-loop-number g l =
    Wrote g.W.TextWriter.given l.fn.out l.out
    (flat_map (channel_part_text l.fn.part) (enumerate_from 0 (take l.number l.channels)))
