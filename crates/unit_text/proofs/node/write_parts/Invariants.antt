use Rattle.std.proofs.Common.{take}
use Rattle.std.specs.List.{flat_map}
use Rattle.text_out.specs.Wrote.{Wrote}
use Rattle.unit_text.specs.Nodes.{part_text}
use Rattle.unit_text.proofs.node.write_parts.Given as goal

-- those so far were written
abbrev pub invariant-loop-channel : goal.invariant-loop-channel
invariant-loop-channel g l =
    Wrote g.W.TextWriter.given l.fn.out l.out (flat_map (part_text l.fn.part) (take l.channel-index l.channels))
