use Rattle.std.proofs.Common.{◌≡◌, [], replicate}
use Rattle.plan_numbers.proofs.turns.empty_lists.Given as goal

-- so many lists are there
abbrev pub invariant-loop : goal.invariant-loop
invariant-loop l = l.lists.items ≡ replicate l.counter []
