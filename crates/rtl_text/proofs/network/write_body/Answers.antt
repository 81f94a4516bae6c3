use Rattle.text_out.proofs.Wrote.{Wrote-append}
use Rattle.rtl_text.proofs.network.write_body.Goals as goal

pub returns : goal.returns
returns g c =
    let w = g.W.TextWriter.given in
    Wrote-append w _ _ c.put.ensures
    (Wrote-append w _ _ (rw c.as_slice-channels.ensures at c.write_for_channels.ensures)
    (Wrote-append w _ _ c.write_for_units.ensures
    (Wrote-append w _ _ c.put-2.ensures
    (Wrote-append w _ _ c.write_for_units-2.ensures
    (Wrote-append w _ _ (rw c.as_slice-channels.ensures at c.write_for_channels-2.ensures)
    (Wrote-append w _ _ c.put-3.ensures
    (Wrote-append w _ _ c.write_for_units-3.ensures c.put-4.ensures)))))))
