use Rattle.std.proofs.Common.{take}
use Rattle.std.specs.List.{flat_map}
use Rattle.text_out.specs.Wrote.{Wrote}
use Rattle.rtl_text.specs.Networks.{unit_part_text}
use Rattle.rtl_text.proofs.network.write_each_unit.Given as goal

-- those so far were written
abbrev pub invariant-loop-holder : goal.invariant-loop-holder
invariant-loop-holder g l =
    Wrote g.W.TextWriter.given l.fn.out l.out
    (flat_map (λ holder. unit_part_text l.fn.part l.fn.nest (g.U.HasUnit.unit_of holder)) (take l.holder-index l.units))
