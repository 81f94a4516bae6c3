use Rattle.std.proofs.Common.{◌≡◌, map, take}
use Rattle.net_core.proofs.progress.first_cursors.Given as goal

-- a cursor was made for each process so far
abbrev pub invariant-loop-process : goal.invariant-loop-process
invariant-loop-process l = l.cursors.items ≡ map (λ process. process.script) (take l.process-index l.processes)
