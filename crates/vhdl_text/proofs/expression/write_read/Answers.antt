use Rattle.text_out.proofs.Wrote.{Wrote-append}
use Rattle.vhdl_text.proofs.expression.write_read.Goals as goal

pub returns-in-Arrays : goal.returns-in-Arrays
returns-in-Arrays g c =
    let w = g.W.TextWriter.given in
    rw c.in-Arrays.is
    (Wrote-append w _ _ c.put.ensures (Wrote-append w _ _ c.write_number.ensures c.put-in-Arrays.ensures))

pub returns-in-Signals : goal.returns-in-Signals
returns-in-Signals g c =
    let w = g.W.TextWriter.given in
    rw c.in-Signals.is
    (Wrote-append w _ _ c.put.ensures (Wrote-append w _ _ c.write_number.ensures c.put-in-Signals.ensures))
