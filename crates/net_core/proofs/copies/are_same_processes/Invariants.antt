use Rattle.std.proofs.Common.{◌≡◌, take}
use Rattle.net_core.proofs.copies.are_same_processes.Given as goal

abbrev pub invariant-loop-at : goal.invariant-loop-at
invariant-loop-at l = take l.at l.processes ≡ take l.at l.others
