use Rattle.std.proofs.Common.{◌≡◌, length, map, take}
use Rattle.std.specs.List.{list_any, range_with_len}
use Rattle.channel_plan.specs.Tokens.{is_from}
use Rattle.channel_plan.proofs.writers.marked_writers.Given as goal

abbrev pub invariant-loop-source : goal.invariant-loop-source
invariant-loop-source l =
    l.marks.items ≡ map (λ w. list_any (is_from w) (take l.source-index l.sources)) (range_with_len 0 (length l.turns))
