use Rattle.text_out.proofs.Wrote.{Wrote-append}
use Rattle.unit_text.proofs.node.write_declarations.Goals as goal

pub returns : goal.returns
returns g c =
    let w = g.W.TextWriter.given in
    Wrote-append w _ _ (rw c.from.ensures at c.write_with_number.ensures)
    (Wrote-append w _ _ c.write_event_table.ensures
    (Wrote-append w _ _ c.write_event_table-2.ensures
    (Wrote-append w _ _ c.write_event_table-3.ensures
    (Wrote-append w _ _ c.write_reads.ensures
    (Wrote-append w _ _ c.write_loops.ensures
    (Wrote-append w _ _ (rw c.len.ensures at c.write_with_number-2.ensures)
    (Wrote-append w _ _ c.write_reads-2.ensures
    (Wrote-append w _ _ c.write_loops-2.ensures
    (Wrote-append w _ _ (rw c.from-2.ensures at c.write_with_number-3.ensures)
    (Wrote-append w _ _ (rw c.role_part.ensures at c.put.ensures)
    (c.write_functions.ensures)))))))))))
