use Rattle.text_out.proofs.Wrote.{Wrote-append}
use Rattle.port_text.proofs.node.write_ports.Goals as goal

pub returns : goal.returns
returns g c =
    let w = g.W.TextWriter.given in
    Wrote-append w _ _ (rw c.as_slice.ensures at c.write_gets.ensures)
    (rw c.as_slice-2.ensures at c.write_puts.ensures)
