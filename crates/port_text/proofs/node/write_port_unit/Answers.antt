use Rattle.text_out.proofs.Wrote.{Wrote-append}
use Rattle.vhdl_text.proofs.Sequences.{Wrote-last}
use Rattle.port_text.proofs.node.write_port_unit.Goals as goal

pub returns : goal.returns
returns g c =
    let w = g.W.TextWriter.given in
    Wrote-append w _ _ c.write_entities.ensures
    (Wrote-append w _ _ c.write_entity.ensures
    (Wrote-append w _ _ c.write_constants.ensures
    (Wrote-append w _ _ c.write_signals.ensures
    (Wrote-append w _ _ c.write_wiring.ensures
    (Wrote-append w _ _ c.write_clocked.ensures
    (Wrote-last w _ c.write_reset.ensures))))))
