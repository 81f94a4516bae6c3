use Rattle.text_out.proofs.Wrote.{Wrote-append}
use Rattle.vhdl_text.proofs.Sequences.{Wrote-last}
use Rattle.rtl_text.proofs.network.write_node.Goals as goal

pub returns : goal.returns
returns g c =
    let w = g.W.TextWriter.given in
    Wrote-append w _ _ (rw c.from-number.ensures at c.write_with_number.ensures)
    (Wrote-append w _ _ c.write_role_joins.ensures
    (Wrote-append w _ _ (rw c.as_slice.ensures at c.write_joins.ensures)
    (Wrote-append w _ _ (rw c.as_slice-2.ensures at c.write_joins-2.ensures)
    (Wrote-last w _ (rw c.from-number.ensures at c.write_with_number-2.ensures)))))
