use Rattle.text_out.proofs.Wrote.{Wrote-append}
use Rattle.unit_text.proofs.node.write_loop_part.Goals as goal

pub returns : goal.returns
returns g c =
    let w = g.W.TextWriter.given in
    Wrote-append w _ _ c.put.ensures
    (Wrote-append w _ _ c.write_number.ensures
    (Wrote-append w _ _ c.put-2.ensures
    (Wrote-append w _ _ c.write_name.ensures
    (Wrote-append w _ _ c.put-3.ensures
    (Wrote-append w _ _ c.write_number-2.ensures
    (c.put-4.ensures))))))
