use Rattle.std.proofs.Common.{take}
use Rattle.std.specs.List.{flat_map}
use Rattle.text_out.specs.Wrote.{Wrote}
use Rattle.unit_text.specs.Nodes.{loop_text}
use Rattle.unit_text.proofs.node.write_each_loop.Given as goal

-- those so far were written
abbrev pub invariant-loop-counter : goal.invariant-loop-counter
invariant-loop-counter g l =
    Wrote g.W.TextWriter.given l.fn.out l.out
    (flat_map (loop_text l.fn.part l.fn.process) (take l.counter-index l.loops))
