use Rattle.text_out.proofs.Wrote.{Wrote-append}
use Rattle.sequencer_text.proofs.sequencer.write_end_tables.Goals as goal

pub returns : goal.returns
returns g c =
    let w = g.W.TextWriter.given in
    Wrote-append w _ _ c.write_end_table.ensures
    (Wrote-append w _ _ c.write_end_table-2.ensures
    (c.write_end_table-3.ensures))
