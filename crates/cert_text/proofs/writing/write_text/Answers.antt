use Rattle.cert_text.proofs.TextPieces.{text_wrote}
use Rattle.cert_text.proofs.writing.write_text.Goals as goal

pub returns : goal.returns
returns g c =
    text_wrote g.W.TextWriter.given g.P.HasBlocks.gives c.args.out.now c.write_line.new.out c.write_sizes.new.out
    c.write_processes.new.out c.write_each.new.out c.write_each-2.new.out c.write_schedule.new.out c.write_line-2.new.out
    c.args.processes.now c.args.channels.now c.args.cert.now c.write_line.ensures
    (rw (c.len.ensures, c.stretch_count.ensures, c.as_slice.ensures) at c.write_sizes.ensures)
    c.write_processes.ensures c.write_each.ensures
    (rw c.as_slice-2.ensures at c.write_each-2.ensures)
    (rw c.as_slice-3.ensures at c.write_schedule.ensures)
    c.write_line-2.ensures
