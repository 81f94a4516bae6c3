-- How turns of a process in a row change what is counted of a channel.
use Rattle.std.specs.Prelude.{ℕ, ◌+◌, ◌-◌, ◌==◌, max, Option, List, [], map, take, drop}
use Rattle.std.specs.Prelude.{slice_get, slice_index, slice_index_or, if◌then◌else◌}
use Rattle.std.specs.List.{enumerate_from, fold, range_with_len}
use Rattle.std.specs.Option.{option_map_or}
use Rattle.channel_plan.specs.Tokens.{turn_of}
use Rattle.network_numbers.specs.declared.queues.QueueCounts.{QueueCounts}
use Rattle.plan_numbers.specs.declared.numbers.PlanNumbers.{PlanNumbers}
use Rattle.sanlp.specs.declared.nest.Tag.{Tag}

-- Turns of the writer

-- how many turns of process w a source wants: up to itself where it is a turn of w, and else none
abbrev pub turns_wanted : ℕ → Option Tag → ℕ
turns_wanted w source = option_map_or (λ turn. turn + 1) (turn_of w source) 0

-- how many turns of the writer are wanted, where it were so many before these sources
abbrev pub wanted_after : PlanNumbers → List (Option Tag) → ℕ → ℕ
wanted_after plan sources wanted = fold max wanted (map (turns_wanted plan.writer) sources)

-- the same, where these are the sources of process p for the read
abbrev pub wanted_by : PlanNumbers → ℕ → List (Option Tag) → ℕ → ℕ
wanted_by plan p sources wanted =
    if plan.reader == p then wanted_after plan sources wanted else wanted

-- how many of so many first turns of the writer are tokens
abbrev pub tokens_among : PlanNumbers → ℕ → ℕ
tokens_among plan turns = slice_index plan.tokens_before turns

-- One channel

-- the length of the queue at the end of each of so many turns of its writer p, from turn f on
abbrev pub lengths : PlanNumbers → ℕ → List (Option Tag) → ℕ → ℕ → ℕ → List ℕ
lengths plan p sources wanted f count =
    map (λ k. tokens_among plan (f + k + 1)
    - tokens_among plan (wanted_by plan p (take (k + 1) sources) wanted)) (range_with_len 0 count)

-- what is counted of a channel after so many turns of process p from turn f on, at which it has these
-- sources
abbrev pub after_turns : PlanNumbers → ℕ → List (Option Tag) → ℕ → ℕ → QueueCounts → QueueCounts
after_turns plan p sources f count queue =
    record {
      wanted = wanted_by plan p sources queue.wanted;
      greatest = if plan.writer == p
          then fold max queue.greatest (lengths plan p sources queue.wanted f count)
          else queue.greatest;
    }

-- All channels

-- the sources for the read of channel c, where the channels' reads have these numbers
abbrev pub sources_for : List ℕ → List (List (Option Tag)) → ℕ → List (Option Tag)
sources_for lists table c = slice_index_or table (slice_index lists c) []

-- what is counted of channel c after so many turns of process p, from turn f on
abbrev pub turns_passed : List PlanNumbers → List ℕ → List (List (Option Tag)) → ℕ → ℕ → ℕ → ℕ
    → QueueCounts → QueueCounts
turns_passed plans lists table p f count c queue =
    let sources = take count (drop f (sources_for lists table c)) in
    option_map_or (λ plan. after_turns plan p sources f count queue) (slice_get plans c) queue

-- what is counted of all channels after them
abbrev pub after_run : List PlanNumbers → List ℕ → List (List (Option Tag)) → ℕ → ℕ → ℕ
    → List QueueCounts → List QueueCounts
after_run plans lists table p f count queues =
    map (λ numbered. turns_passed plans lists table p f count numbered.0 numbered.1)
    (enumerate_from 0 queues)
