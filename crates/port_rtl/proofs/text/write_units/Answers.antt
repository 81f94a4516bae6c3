use Rattle.vhdl_text.proofs.Sequences.{one_more_item}
use Rattle.port_text.specs.Nodes.{port_unit_text}
use Rattle.port_rtl.proofs.text.write_units.Goals as goal

pub loop-unit-preserved : goal.loop-unit-preserved
loop-unit-preserved g c =
    one_more_item g.W.TextWriter.given port_unit_text c.args.units.now c.loop-unit.unit-index
    c.unit-item.result c.loop-unit-test.true c.unit-item.is c.loop-unit.invariant c.write_port_unit.ensures
