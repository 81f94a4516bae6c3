use Rattle.vhdl_text.proofs.Sequences.{one_more_number}
use Rattle.port_text.specs.Nodes.{read_text}
use Rattle.port_text.proofs.node.write_reads.Goals as goal

pub loop-read-preserved : goal.loop-read-preserved
loop-read-preserved g c =
    one_more_number g.W.TextWriter.given (read_text c.args.part c.args.unit.now) c.loop-read.read c.loop-read.invariant
    c.write_read.ensures
