use Rattle.text_out.proofs.Wrote.{Wrote-append}
use Rattle.sequencer_text.proofs.sequencer.write_sequencer_types.Goals as goal

pub returns : goal.returns
returns g c =
    let w = g.W.TextWriter.given in
    Wrote-append w _ _ c.put.ensures
    (Wrote-append w _ _ c.write_name.ensures
    (rw c.from.ensures at c.write_all.ensures))
