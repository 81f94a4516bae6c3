use Rattle.text_out.proofs.Wrote.{Wrote-append}
use Rattle.cert_text.specs.CertText.{event_text, parts_text, process_head}
use Rattle.cert_text.specs.Folding.{FoldedProcess}
use Rattle.cert_text.specs.Writing.{folded_process}
use Rattle.cert_text.proofs.writing.write_process.Goals as goal

pub returns : goal.returns
returns g c =
    let folded : FoldedProcess = folded_process c.process_blocks-blocks.result in
    record {
      folded = folded;
      is_given = c.process_blocks-blocks.ensures;
      wrote = Wrote-append g.W.TextWriter.given
          (process_head folded) (parts_text event_text folded.script.parts)
          (rw c.len.ensures at c.write_process_head.ensures) (rw c.as_slice.ensures at c.write_parts.ensures);
    }
