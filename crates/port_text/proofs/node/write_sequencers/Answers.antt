use Rattle.text_out.proofs.Wrote.{Wrote-append}
use Rattle.vhdl_text.proofs.Sequences.{Wrote-last}
use Rattle.port_text.proofs.node.write_sequencers.Goals as goal

pub returns : goal.returns
returns g c =
    let w = g.W.TextWriter.given in
    Wrote-append w _ _ c.write_fire_sequencer.ensures
    (Wrote-append w _ _ c.write_ports.ensures
    (Wrote-last w _ c.write_loops.ensures))
