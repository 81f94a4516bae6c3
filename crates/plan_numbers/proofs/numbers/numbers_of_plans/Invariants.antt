use Rattle.std.proofs.Common.{◌≡◌, length, map, take}
use Rattle.std.specs.List.{sum_by}
use Rattle.channel_plan.proofs.Nests.{plans_below}
use Rattle.plan_numbers.specs.Numbers.{numbers_of}
use Rattle.plan_numbers.proofs.numbers.numbers_of_plans.Given as goal

-- the readers so far have their channels
abbrev pub invariant-loop-reader : goal.invariant-loop-reader
invariant-loop-reader l = record {
  first : l.first ≡ sum_by (λ s. length s.reads) (take l.reader l.nest.statements);
  numbers : l.numbers.items ≡ map numbers_of (plans_below l.nest l.reader);
}
