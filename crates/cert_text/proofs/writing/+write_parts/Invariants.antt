use Rattle.std.proofs.Common.{take}
use Rattle.text_out.specs.Wrote.{Wrote}
use Rattle.cert_text.specs.CertText.{parts_text}
use Rattle.cert_text.proofs.writing.+write_parts.Given as goal

-- the parts so far were written
abbrev pub invariant-write_parts-loop-part : goal.invariant-write_parts-loop-part
invariant-write_parts-loop-part g l =
    Wrote g.W.TextWriter.given l.fn.out l.out (parts_text g.T.WriteLines.lines (take l.part-index l.parts))
