use Rattle.text_out.proofs.Wrote.{Wrote-append}
use Rattle.vhdl_text.proofs.Sequences.{Wrote-last}
use Rattle.port_text.proofs.node.write_wiring.Goals as goal

pub returns : goal.returns
returns g c =
    let w = g.W.TextWriter.given in
    Wrote-append w _ _ c.write_sequencers.ensures
    (Wrote-append w _ _ c.write_reads.ensures
    (Wrote-append w _ _ c.write_ports.ensures
    (Wrote-append w _ _ c.write_may_fire.ensures
    (Wrote-append w _ _ c.write_role.ensures
    (Wrote-last w _ c.write_done.ensures)))))
