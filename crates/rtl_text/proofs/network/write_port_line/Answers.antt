use Rattle.std.proofs.Common.{codes}
use Rattle.text_out.proofs.Wrote.{Wrote-append}
use Rattle.rtl_text.specs.Names.{port_name}
use Rattle.rtl_text.proofs.Lines.{Wrote-line}
use Rattle.rtl_text.proofs.network.write_port_line.Goals as goal

pub returns : goal.returns
returns g c =
    let w = g.W.TextWriter.given in
    Wrote-line w (codes "    ") (port_name c.args.names.now.nest.now c.args.names.now.array.now c.args.part.now c.args.names.now.way.now) (codes " : ") c.args.mode.now
    (codes ";\n")
    (Wrote-append w _ _ c.put.ensures
    (Wrote-append w _ _ c.write_port.ensures
    (Wrote-append w _ _ c.put-2.ensures (Wrote-append w _ _ c.put-3.ensures c.put-4.ensures))))
