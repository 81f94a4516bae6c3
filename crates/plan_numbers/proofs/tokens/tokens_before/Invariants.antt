use Rattle.std.proofs.Common.{◌≡◌, count_by, map, take}
use Rattle.std.specs.List.{range_with_len}
use Rattle.plan_numbers.proofs.tokens.tokens_before.Given as goal

abbrev pub invariant-loop-mark : goal.invariant-loop-mark
invariant-loop-mark l = record {
  number : l.number ≡ count_by (λ mark. mark) (take l.mark-index l.is_token);
  numbers : l.numbers.items
      ≡ map (λ turn. count_by (λ mark. mark) (take turn l.is_token)) (range_with_len 0 l.mark-index);
}
