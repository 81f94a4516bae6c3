use Rattle.vhdl_text.proofs.Sequences.{one_more_item}
use Rattle.rtl_text.specs.Networks.{unit_part_text}
use Rattle.rtl_text.proofs.network.write_each_unit.Goals as goal

pub loop-holder-preserved : goal.loop-holder-preserved
loop-holder-preserved g c =
    one_more_item g.W.TextWriter.given (λ holder. unit_part_text c.args.part c.args.nest.now (g.U.HasUnit.unit_of holder))
    c.args.units.now c.loop-holder.holder-index
    c.holder-item.result c.loop-holder-test.true c.holder-item.is c.loop-holder.invariant
    (rw c.unit.ensures at c.write_unit_part.ensures)
