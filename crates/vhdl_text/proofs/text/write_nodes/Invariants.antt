use Rattle.std.proofs.Common.{take}
use Rattle.std.specs.List.{flat_map}
use Rattle.text_out.specs.Wrote.{Wrote}
use Rattle.vhdl_text.specs.VhdlText.{node_text}
use Rattle.vhdl_text.proofs.text.write_nodes.Given as goal

-- the nodes so far were written
abbrev pub invariant-loop-auto : goal.invariant-loop-auto
invariant-loop-auto g l = Wrote g.W.TextWriter.given l.fn.out l.out (flat_map node_text (take l.auto-index l.autos))
