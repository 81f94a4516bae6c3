use Rattle.text_out.proofs.Wrote.{Wrote-append}
use Rattle.port_text.proofs.ports.write_get_tables.Goals as goal

pub returns : goal.returns
returns g c =
    let w = g.W.TextWriter.given in
    Wrote-append w _ _ c.write_get_table.ensures
    (c.write_get_table-2.ensures)
