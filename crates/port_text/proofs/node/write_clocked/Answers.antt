use Rattle.text_out.proofs.Wrote.{Wrote-append}
use Rattle.vhdl_text.proofs.Sequences.{Wrote-last}
use Rattle.port_text.proofs.node.write_clocked.Goals as goal

pub returns : goal.returns
returns g c =
    let w = g.W.TextWriter.given in
    Wrote-append w _ _ c.put.ensures
    (Wrote-append w _ _ c.write_ports.ensures
    (Wrote-append w _ _ (rw c.role_part.ensures at c.put-2.ensures)
    (Wrote-append w _ _ c.write_fire.ensures
    (Wrote-append w _ _ (rw c.role_part-2.ensures at c.put-3.ensures)
    (Wrote-last w _ c.write_loops.ensures)))))
