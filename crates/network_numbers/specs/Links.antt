-- The channels of a process, and where the sources of a channel's read stand.
use Rattle.std.specs.Prelude.{ℕ, Bool, false, ◌==◌, ◌||◌, List, length, map, slice_get}
use Rattle.std.specs.List.{filter, range_with_len}
use Rattle.std.specs.Option.{option_map_or}
use Rattle.plan_numbers.specs.declared.numbers.PlanNumbers.{PlanNumbers}
use Rattle.sanlp.specs.declared.nest.Nest.{Nest}
use Rattle.source_tree.specs.Sources.{read_number}

-- whether process p reads a channel or writes to it
abbrev pub has_end_at : ℕ → PlanNumbers → Bool
has_end_at p plan = (plan.reader == p) || (plan.writer == p)

-- the numbers of the channels that process p reads or writes to, ascending
abbrev pub channels_at : List PlanNumbers → ℕ → List ℕ
channels_at plans p =
    filter (λ c. option_map_or (has_end_at p) (slice_get plans c) false)
    (range_with_len 0 (length plans))

-- for each channel, the number of its read among all reads
abbrev pub read_lists : Nest → List PlanNumbers → List ℕ
read_lists n plans = map (λ plan. read_number n plan.reader plan.read) plans
