use Rattle.std.proofs.Common.{◌≡◌, map}
use Rattle.cert_text.specs.Kept.{process_of_kept}
use Rattle.cert_text.proofs.kept.processes_of.Given as goal

abbrev pub invariant-loop-process : goal.invariant-loop-process
invariant-loop-process l = l.processes ≡ map process_of_kept l.yielded
