-- The channels of one read, from its sources and the numbers of turns that the processes have.
use Rattle.std.specs.Prelude.{◌<◌, ◌≤◌, ℕ, Option, Some, None, List, map, length, slice_index, slice_index_or, []}
use Rattle.std.specs.List.{All, flat_map, range_with_len}
use Rattle.channel_class.specs.Classes.{class_of}
use Rattle.sanlp.specs.declared.nest.Tag.{Tag}
use Rattle.sanlp.specs.Size.{size_limit}
use Rattle.channel_plan.specs.Plans.{slot_plan}
use Rattle.channel_plan.specs.Tokens.{tokens_among, tokens_below, turns_used, uses_of, writers_of}
use Rattle.channel_plan.specs.declared.plans.ChannelPlan.{ChannelPlan}

-- a source, if there is one, is a turn of one of the processes, which have these numbers of turns
abbrev pub IsTurnAmong : List ℕ → Option Tag → Type 0
IsTurnAmong turns None = Unit {0}
IsTurnAmong turns (Some t) = (t.process < length turns) × (t.turn < slice_index turns t.process)

-- The processes are as few as statements, and each has no more turns than a nest has points.
pub record AreFew (turns : List ℕ) : Type 0 where
  pub processes : length turns ≤ 64
  pub turns_of_each : All (λ count. count ≤ size_limit) turns

-- the channel over which read k of process p gets what process w wrote, which has so many turns
unfoldable pub channel_of : ℕ → ℕ → List (Option Tag) → ℕ → ℕ → ChannelPlan
channel_of p k sources turns w =
    let used = turns_used w sources in
    record {
      reader = p;
      read = k;
      writer = w;
      is_token = tokens_among turns used;
      tokens = tokens_below used turns;
      class = class_of (uses_of used);
      slots = slot_plan (uses_of used);
    }

-- the channels of read k of process p, by writer
unfoldable pub channels_of : List ℕ → ℕ → ℕ → List (Option Tag) → List ChannelPlan
channels_of turns p k sources =
    map (λ w. channel_of p k sources (slice_index turns w) w) (writers_of (length turns) sources)

-- the channels of process p, by read, where these are the sources of its reads
unfoldable pub channels_to : List ℕ → ℕ → List (List (Option Tag)) → List ChannelPlan
channels_to turns p reads =
    flat_map (λ k. channels_of turns p k (slice_index_or reads k []))
    (range_with_len 0 (length reads))
