use Rattle.text_out.proofs.Wrote.{Wrote-append}
use Rattle.unit_text.proofs.node.write_entity.Goals as goal

pub returns : goal.returns
returns g c =
    let w = g.W.TextWriter.given in
    Wrote-append w _ _ (rw c.from.ensures at c.write_with_number.ensures)
    (Wrote-append w _ _ (rw c.role_part.ensures at c.put.ensures)
    (Wrote-append w _ _ (rw c.as_slice.ensures at c.write_parts.ensures)
    (Wrote-append w _ _ (rw c.as_slice-2.ensures at c.write_parts-2.ensures)
    (c.put-2.ensures))))
