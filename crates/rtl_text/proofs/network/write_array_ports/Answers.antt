use Rattle.text_out.proofs.Wrote.{Wrote-append}
use Rattle.vhdl_text.proofs.Sequences.{Wrote-last}
use Rattle.rtl_text.proofs.network.write_array_ports.Goals as goal

pub returns : goal.returns
returns g c =
    let w = g.W.TextWriter.given in
    Wrote-append w _ _ c.write_port_line.ensures
    (Wrote-append w _ _ c.write_port_line-2.ensures (Wrote-last w _ c.write_port_line-3.ensures))
