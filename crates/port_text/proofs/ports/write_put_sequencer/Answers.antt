use Rattle.text_out.proofs.Wrote.{Wrote-append}
use Rattle.vhdl_text.proofs.Sequences.{Wrote-last}
use Rattle.port_text.proofs.ports.write_put_sequencer.Goals as goal

pub returns : goal.returns
returns g c =
    let w = g.W.TextWriter.given in
    Wrote-append w _ _ c.put.ensures
    (Wrote-append w _ _ c.write_number.ensures
    (Wrote-append w _ _ c.put-2.ensures
    (Wrote-append w _ _ c.write_name.ensures
    (Wrote-last w _ (rw c.from.ensures at c.write_with_number.ensures)))))
