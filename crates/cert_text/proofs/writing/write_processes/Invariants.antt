use Rattle.std.proofs.Common.{take}
use Rattle.cert_text.specs.Writing.{WritesProcesses}
use Rattle.cert_text.proofs.writing.write_processes.Given as goal

-- the processes so far were written
abbrev pub invariant-loop-process : goal.invariant-loop-process
invariant-loop-process g l =
    WritesProcesses g.W.TextWriter.given g.P.HasBlocks.gives l.fn.out l.out (take l.process-index l.processes)
