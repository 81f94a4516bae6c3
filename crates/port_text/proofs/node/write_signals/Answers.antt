use Rattle.text_out.proofs.Wrote.{Wrote-append}
use Rattle.port_text.proofs.node.write_signals.Goals as goal

pub returns : goal.returns
returns g c =
    let w = g.W.TextWriter.given in
    Wrote-append w _ _ (rw c.len.ensures at c.write_with_number.ensures)
    (Wrote-append w _ _ c.write_ports.ensures
    (Wrote-append w _ _ c.write_reads.ensures
    (Wrote-append w _ _ c.write_loops.ensures
    (Wrote-append w _ _ (rw c.from.ensures at c.write_with_number-2.ensures)
    (Wrote-append w _ _ (rw c.role_part.ensures at c.put.ensures)
    (c.write_functions.ensures))))))
