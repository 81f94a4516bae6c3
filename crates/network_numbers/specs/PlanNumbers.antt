-- The numbers of a network by the plans of its channels.
use Rattle.std.specs.Prelude.{ℕ, ◌+◌, ◌*◌, ◌==◌, List, map, slice_index, if◌then◌else◌}
use Rattle.std.specs.List.{enumerate_from, sum_by}
use Rattle.net_text.specs.declared.numbers.ChannelNumbers.{ChannelNumbers}
use Rattle.net_text.specs.declared.numbers.ProcessNumbers.{ProcessNumbers}
use Rattle.plan_numbers.specs.declared.numbers.PlanNumbers.{PlanNumbers}

-- how many slots the channels have that process p reads
abbrev pub slots_in : List PlanNumbers → ℕ → ℕ
slots_in plans p = sum_by (λ plan. if plan.reader == p then plan.hold else 0) plans

-- the numbers of process p, which fires so often
abbrev pub process_by_plans : List PlanNumbers → ℕ → ℕ → ProcessNumbers
process_by_plans plans p fires = record { fires = fires; slots = slots_in plans p }

-- for each process its numbers, where the processes have so many turns
abbrev pub processes_by_plans : List PlanNumbers → List ℕ → List ProcessNumbers
processes_by_plans plans turns =
    map (λ numbered. process_by_plans plans numbered.0 numbered.1) (enumerate_from 0 turns)

-- the numbers of a channel with this capacity
abbrev pub channel_by_plan : PlanNumbers → ℕ → ChannelNumbers
channel_by_plan plan capacity =
    record {
      writer = plan.writer;
      reader = plan.reader;
      read = plan.read;
      tokens = plan.tokens;
      capacity = capacity;
      hold = plan.hold;
      class = plan.class;
    }

-- for each channel its numbers, where the channels have these capacities
abbrev pub channels_by_plans : List PlanNumbers → List ℕ → List ChannelNumbers
channels_by_plans plans capacities =
    map (λ numbered. channel_by_plan numbered.1 (slice_index capacities numbered.0))
    (enumerate_from 0 plans)

-- one Fire for each turn, and a Put and a Get for each token
abbrev pub event_total : List ℕ → List PlanNumbers → ℕ
event_total turns plans = sum_by (λ count. count) turns + 2 * sum_by (λ plan. plan.tokens) plans
