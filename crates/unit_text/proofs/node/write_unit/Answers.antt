use Rattle.text_out.proofs.Wrote.{Wrote-append}
use Rattle.vhdl_text.proofs.Sequences.{Wrote-last}
use Rattle.unit_text.proofs.node.write_unit.Goals as goal

pub returns : goal.returns
returns g c =
    let w = g.W.TextWriter.given in
    Wrote-append w _ _ c.write_sequencer.ensures
    (Wrote-append w _ _ c.write_loops.ensures
    (Wrote-append w _ _ c.write_entity.ensures
    (Wrote-append w _ _ c.write_declarations.ensures
    (Wrote-append w _ _ c.write_wiring.ensures
    (Wrote-last w _ c.write_process.ensures)))))
