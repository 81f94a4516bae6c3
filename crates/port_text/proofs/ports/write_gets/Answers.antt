use Rattle.vhdl_text.proofs.Sequences.{one_more_item}
use Rattle.port_text.specs.Ports.{get_text}
use Rattle.port_text.proofs.ports.write_gets.Goals as goal

pub loop-control-preserved : goal.loop-control-preserved
loop-control-preserved g c =
    one_more_item g.W.TextWriter.given (get_text c.args.part c.args.process) c.args.controls.now
    c.loop-control.control-index
    c.control-item.result c.loop-control-test.true c.control-item.is c.loop-control.invariant c.write_get.ensures
