use Rattle.vhdl_text.specs.VhdlText.{node_text}
use Rattle.vhdl_text.proofs.Sequences.{one_more_item}
use Rattle.vhdl_text.proofs.text.write_nodes.Goals as goal

pub loop-auto-preserved : goal.loop-auto-preserved
loop-auto-preserved g c =
    one_more_item g.W.TextWriter.given node_text c.args.autos.now c.loop-auto.auto-index c.auto-item.result
    c.loop-auto-test.true c.auto-item.is c.loop-auto.invariant
    c.write_node.ensures
