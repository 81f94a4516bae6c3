use Rattle.std.proofs.Common.{take}
use Rattle.std.specs.List.{flat_map}
use Rattle.text_out.specs.Wrote.{Wrote}
use Rattle.trace_text.specs.TraceText.{entry_line}
use Rattle.trace_text.proofs.writing.write_entries.Given as goal

-- the lines so far were written
abbrev pub invariant-loop-process : goal.invariant-loop-process
invariant-loop-process g l =
    Wrote g.W.TextWriter.given l.fn.out l.out (flat_map entry_line (take l.process-index l.run))
