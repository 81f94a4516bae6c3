use Rattle.text_out.proofs.Wrote.{Wrote-append}
use Rattle.vhdl_text.proofs.Sequences.{Wrote-last}
use Rattle.port_rtl.proofs.text.write_text.Goals as goal

pub returns : goal.returns
returns g c =
    let w = g.W.TextWriter.given in
    Wrote-append w _ _ c.put.ensures
    (Wrote-append w _ _ (rw c.as_slice.ensures at c.write_channels.ensures)
    (Wrote-append w _ _ c.write_channel.ensures
    (Wrote-append w _ _ c.write_units.ensures
    (Wrote-append w _ _ c.write_entity.ensures (Wrote-last w _ c.write_body.ensures)))))
