use Rattle.std.proofs.Common.{take}
use Rattle.std.specs.List.{flat_map}
use Rattle.text_out.specs.Wrote.{Wrote}
use Rattle.cert_text.proofs.writing.write_each.Given as goal

-- the items so far were written
abbrev pub invariant-loop-item : goal.invariant-loop-item
invariant-loop-item g l =
    Wrote g.W.TextWriter.given l.fn.out l.out (flat_map g.T.WriteLines.lines (take l.item-index l.items))
