use Rattle.text_out.proofs.Wrote.{Wrote-append}
use Rattle.unit_text.proofs.node.write_wiring.Goals as goal

pub returns : goal.returns
returns g c =
    let w = g.W.TextWriter.given in
    Wrote-append w _ _ c.write_control.ensures
    (Wrote-append w _ _ c.write_loops.ensures
    (Wrote-append w _ _ c.put.ensures
    (Wrote-append w _ _ c.write_reads.ensures
    (Wrote-append w _ _ (rw c.role_part.ensures at c.put-2.ensures)
    (Wrote-append w _ _ c.put-3.ensures
    (Wrote-append w _ _ (rw c.as_slice.ensures at c.write_parts.ensures)
    (Wrote-append w _ _ (rw c.as_slice-2.ensures at c.write_parts-2.ensures)
    (Wrote-append w _ _ c.put-4.ensures
    (Wrote-append w _ _ (rw c.role_part-2.ensures at c.put-5.ensures)
    (Wrote-append w _ _ (rw c.as_slice-3.ensures at c.write_parts-3.ensures)
    (Wrote-append w _ _ (rw c.as_slice-4.ensures at c.write_parts-4.ensures)
    (c.put-6.ensures))))))))))))
