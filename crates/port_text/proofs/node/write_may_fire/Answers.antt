use Rattle.text_out.proofs.Wrote.{Wrote-append}
use Rattle.port_text.proofs.node.write_may_fire.Goals as goal

pub returns : goal.returns
returns g c =
    let w = g.W.TextWriter.given in
    Wrote-append w _ _ c.put.ensures
    (Wrote-append w _ _ (rw c.len.ensures at c.write_number.ensures)
    (Wrote-append w _ _ c.put-2.ensures
    (Wrote-append w _ _ c.write_ports.ensures
    (c.put-3.ensures))))
