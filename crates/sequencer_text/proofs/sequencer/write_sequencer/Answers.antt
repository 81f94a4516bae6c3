use Rattle.text_out.proofs.Wrote.{Wrote-append}
use Rattle.vhdl_text.proofs.Sequences.{Wrote-last}
use Rattle.sequencer_text.proofs.sequencer.write_sequencer.Goals as goal

pub returns : goal.returns
returns g c =
    let w = g.W.TextWriter.given in
    Wrote-append w _ _ (rw c.len-count.ensures at c.write_sequencer_entity.ensures)
    (Wrote-append w _ _ (rw c.most_turns.ensures at c.write_sequencer_types.ensures)
    (Wrote-append w _ _ c.write_end_parts.ensures
    (Wrote-append w _ _ (rw c.len-count.ensures at c.write_sequencer_signals.ensures)
    (Wrote-append w _ _ c.write_end_parts-2.ensures
    (Wrote-append w _ _ c.put.ensures
    (Wrote-append w _ _ c.write_end_parts-3.ensures
    (Wrote-append w _ _ (rw c.len-count.ensures at c.write_sequencer_head.ensures)
    (Wrote-append w _ _ c.write_end_parts-4.ensures
    (Wrote-last w _ (rw c.len-count.ensures at c.write_sequencer_end.ensures))))))))))
