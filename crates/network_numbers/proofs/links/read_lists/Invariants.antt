use Rattle.std.proofs.Common.{◌≡◌, map, take}
use Rattle.source_tree.specs.Sources.{read_number}
use Rattle.network_numbers.proofs.links.read_lists.Given as goal

abbrev pub invariant-loop-plan : goal.invariant-loop-plan
invariant-loop-plan l =
    l.lists.items ≡ map (λ plan. read_number l.nest plan.reader plan.read) (take l.plan-index l.plans)
