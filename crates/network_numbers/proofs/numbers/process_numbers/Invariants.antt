use Rattle.std.proofs.Common.{◌≡◌, take}
use Rattle.network_numbers.specs.PlanNumbers.{processes_by_plans}
use Rattle.network_numbers.proofs.numbers.process_numbers.Given as goal

-- the processes so far are told
abbrev pub invariant-loop-process : goal.invariant-loop-process
invariant-loop-process l = l.numbers.items ≡ processes_by_plans l.plans (take l.process l.turns)
