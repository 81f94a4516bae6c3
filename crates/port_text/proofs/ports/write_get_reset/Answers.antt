use Rattle.text_out.proofs.Wrote.{Wrote-append}
use Rattle.port_text.proofs.ports.write_get_reset.Goals as goal

pub returns : goal.returns
returns g c =
    let w = g.W.TextWriter.given in
    Wrote-append w _ _ c.put.ensures
    (Wrote-append w _ _ c.write_number.ensures
    (Wrote-append w _ _ c.put-2.ensures
    (Wrote-append w _ _ (rw c.bit.ensures at c.put-3.ensures)
    (c.put-4.ensures))))
