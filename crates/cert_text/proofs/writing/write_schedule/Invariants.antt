use Rattle.std.proofs.Common.{◌≡◌, ◌++◌, length}
use Rattle.cert_text.specs.CertText.{entry_text, parts_text}
use Rattle.cert_text.specs.Stretches.{stretch_blocks}
use Rattle.cert_text.proofs.writing.write_schedule.Given as goal

-- what was written, and the text of the rest, are the text of all
abbrev pub invariant-loop-entry : goal.invariant-loop-entry
invariant-loop-entry g l = record {
  start : (g.W.TextWriter.given l.out).start ≡ (g.W.TextWriter.given l.fn.out).start;
  whole : (g.W.TextWriter.given l.out).text ++ parts_text entry_text (stretch_blocks l.rest).parts
      ≡ (g.W.TextWriter.given l.fn.out).text ++ parts_text entry_text (stretch_blocks l.entries).parts;
}

abbrev pub decreases-loop-entry : goal.decreases-loop-entry
decreases-loop-entry g l = length l.rest
