use Rattle.std.proofs.Common.{◌≡◌, ◌++◌, map, get_or}
use Rattle.std.specs.List.{filter, list_any, range_with_len}
use Rattle.channel_plan.specs.Reads.{channel_of}
use Rattle.channel_plan.specs.Tokens.{is_from}
use Rattle.plan_numbers.specs.Numbers.{numbers_of}
use Rattle.plan_numbers.proofs.read.add_numbers_of.Given as goal

-- the writers so far have their channels
abbrev pub invariant-loop-writer : goal.invariant-loop-writer
invariant-loop-writer l =
    l.numbers.items
    ≡ l.initial.numbers.items
    ++ map numbers_of (map (λ w. channel_of l.reader l.read l.sources (get_or l.turns w 0) w)
    (filter (λ w. list_any (is_from w) l.sources) (range_with_len 0 l.writer)))
