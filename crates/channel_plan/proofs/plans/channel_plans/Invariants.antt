use Rattle.std.proofs.Common.{◌≡◌, length, take}
use Rattle.std.specs.List.{flat_map, sum_by, range_with_len}
use Rattle.sanlp.specs.Access.{read_count}
use Rattle.channel_plan.specs.Plans.{plans_at}
use Rattle.channel_plan.proofs.plans.channel_plans.Given as goal

abbrev pub invariant-loop-reader : goal.invariant-loop-reader
invariant-loop-reader l = record {
  first : l.first ≡ sum_by (λ s. length s.reads) (take l.reader l.nest.statements);
  plans : l.plans.items
      ≡ flat_map (λ p. flat_map (plans_at l.nest p) (range_with_len 0 (read_count l.nest p)))
      (range_with_len 0 l.reader);
}
