use Rattle.std.proofs.Common.{◌++◌, codes, take}
use Rattle.std.specs.List.{flat_map}
use Rattle.text_out.specs.Wrote.{Wrote}
use Rattle.cert_text.specs.CertText.{ref_word}
use Rattle.cert_text.proofs.writing.write_references.Given as goal

-- the references so far were written
abbrev pub invariant-loop-read : goal.invariant-loop-read
invariant-loop-read g l =
    Wrote g.W.TextWriter.given l.fn.out l.out
    (flat_map (λ reference. codes " " ++ ref_word reference) (take l.read l.refs))
