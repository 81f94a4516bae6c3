use Rattle.std.proofs.Common.{take}
use Rattle.text_out.specs.Wrote.{Wrote}
use Rattle.number_text.specs.Numbers.{process_texts}
use Rattle.number_text.proofs.writing.write_processes.Given as goal

-- the lines so far were written
abbrev pub invariant-loop-number : goal.invariant-loop-number
invariant-loop-number g l = Wrote g.W.TextWriter.given l.fn.out l.out (process_texts l.nest (take l.number l.processes))
