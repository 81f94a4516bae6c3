use Rattle.std.proofs.Common.{take}
use Rattle.std.specs.List.{flat_map}
use Rattle.text_out.specs.Wrote.{Wrote}
use Rattle.port_text.specs.Nodes.{port_unit_text}
use Rattle.port_rtl.proofs.text.write_units.Given as goal

-- those so far were written
abbrev pub invariant-loop-unit : goal.invariant-loop-unit
invariant-loop-unit g l =
    Wrote g.W.TextWriter.given l.fn.out l.out (flat_map port_unit_text (take l.unit-index l.units))
