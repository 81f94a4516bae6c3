use Rattle.std.proofs.Common.{take}
use Rattle.std.specs.List.{flat_map}
use Rattle.text_out.specs.Wrote.{Wrote}
use Rattle.rtl_text.specs.Networks.{joins_text}
use Rattle.rtl_text.proofs.network.write_joins.Given as goal

-- those so far were written
abbrev pub invariant-loop-channel : goal.invariant-loop-channel
invariant-loop-channel g l =
    Wrote g.W.TextWriter.given l.fn.out l.out (flat_map (joins_text l.fn.end) (take l.channel-index l.channels))
