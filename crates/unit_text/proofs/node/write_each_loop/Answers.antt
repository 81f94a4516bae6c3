use Rattle.unit_text.specs.Nodes.{loop_text}
use Rattle.vhdl_text.proofs.Sequences.{one_more_item}
use Rattle.unit_text.proofs.node.write_each_loop.Goals as goal

pub loop-counter-preserved : goal.loop-counter-preserved
loop-counter-preserved g c =
    one_more_item g.W.TextWriter.given (loop_text c.args.part c.args.process) c.args.loops.now
    c.loop-counter.counter-index
    c.counter-item.result c.loop-counter-test.true c.counter-item.is c.loop-counter.invariant c.write_loop.ensures
