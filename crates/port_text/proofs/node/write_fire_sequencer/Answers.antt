use Rattle.text_out.proofs.Wrote.{Wrote-append}
use Rattle.port_text.proofs.node.write_fire_sequencer.Goals as goal

pub returns : goal.returns
returns g c =
    let w = g.W.TextWriter.given in
    Wrote-append w _ _ c.put.ensures
    (Wrote-append w _ _ c.write_name.ensures
    (c.put-2.ensures))
