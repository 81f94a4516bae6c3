-- The uses of the fires of one process, by read, and the events of its points.
use Rattle.std.specs.Prelude.{◌≡◌, ◌<◌, ◌^◌, ℕ, ◌+◌, Option, Some, None, List, [], ◌∷◌, ◌++◌, map, take, length, slice_get, slice_index, slice_index_or, slice_set}
use Rattle.std.specs.List.{flat_map, find, range_with_len}
use Rattle.std.specs.Option.{option_map, option_map_or, option_and_then}
use Rattle.channel_plan.specs.declared.plans.ChannelPlan.{ChannelPlan}
use Rattle.channel_plan.specs.Tokens.{turns_used}
use Rattle.net_core.specs.declared.network.Event.{Event}
use Rattle.net_core.specs.declared.network.Event.TheVariants.{Fire}
use Rattle.reorder_slots.specs.declared.slots.SlotPlan.{SlotPlan}
use Rattle.sanlp.specs.declared.nest.Tag.{Tag}
use Rattle.process_derive.specs.declared.incoming.Incoming.{Incoming}
use Rattle.process_derive.specs.declared.uses.ChannelUse.{ChannelUse}
use Rattle.process_derive.specs.Incoming.{comes_from, puts_to}
use Rattle.process_derive.specs.Scripts.{Usage, gets_of, ref_of}

-- use number q of the channel from process w to read k, if there is such a channel
abbrev pub use_from : List Incoming → ℕ → ℕ → ℕ → Option ChannelUse
use_from incoming k w q =
    option_map
    (λ (found : Incoming). record { channel = found.channel; base = found.base; number = q })
    (find (comes_from w k) incoming)

-- how often the fires before fire f use a token of process w
abbrev pub uses_before : List (Option Tag) → ℕ → ℕ → ℕ
uses_before sources f w = length (turns_used w (take f sources))

-- what fire f uses for read k, whose sources are these
abbrev pub use_at : List Incoming → ℕ → List (Option Tag) → ℕ → Option ChannelUse
use_at incoming k sources f =
    option_and_then
    (λ source. option_and_then
    (λ t. use_from incoming k t.process (uses_before sources f t.process)) source)
    (slice_get sources f)

-- what each fire uses for read k
abbrev pub read_uses : List Incoming → ℕ → List (Option Tag) → List (Option ChannelUse)
read_uses incoming k sources = map (use_at incoming k sources) (range_with_len 0 (length sources))

-- what each fire uses, by read
abbrev pub uses_by_read : List Incoming → List (List (Option Tag)) → List (List (Option ChannelUse))
uses_by_read incoming sources =
    map (λ k. read_uses incoming k (slice_index_or sources k []))
    (range_with_len 0 (length sources))

-- the plan of slots of channel c
abbrev pub slots_at : List ChannelPlan → ℕ → SlotPlan
slots_at plans c =
    option_map_or (λ plan. plan.slots) (slice_get plans c)
    (record { gets_before = []; slot_of_get = []; slot_of_use = []; hold = 0 })

-- a use with the plan of its channel's slots
abbrev pub with_slots : List ChannelPlan → Option ChannelUse → Option Usage
with_slots plans found =
    option_map
    (λ (u : ChannelUse). record {
      channel = u.channel;
      base = u.base;
      slots = slots_at plans u.channel;
      number = u.number;
    }) found

-- what fire f uses, by read
abbrev pub usages_at : List ChannelPlan → List (List (Option ChannelUse)) → ℕ → List (Option Usage)
usages_at plans uses f =
    map (λ list. with_slots plans (option_and_then (λ found. found) (slice_get list f))) uses

-- the events of the point of fire f
abbrev pub events_at : List ChannelPlan → List (List (Option ChannelUse)) → List ℕ → ℕ → List Event
events_at plans uses outgoing f =
    flat_map gets_of (usages_at plans uses f) ++ Fire (map ref_of (usages_at plans uses f))
    ∷ puts_to plans outgoing f

-- The numbers of a plan's slots, behind so many others, are below 2 ^ 32.
pub record SlotsFit (base : ℕ) (slots : SlotPlan) : Type 0 where
  pub gets : (m : ℕ) → base + slice_index slots.slot_of_get m < 2 ^ 32
  pub uses : (q : ℕ) → base + slice_index slots.slot_of_use q < 2 ^ 32

-- The channel of a use exists, and the numbers of its slots are below 2 ^ 32.
abbrev pub UseFits : List ChannelPlan → Option ChannelUse → Type 0
UseFits plans None = Unit {0}
UseFits plans (Some u) = (u.channel < length plans) × SlotsFit u.base (slots_at plans u.channel)

-- the counts of the processes after a use of this source
abbrev pub counted : List ℕ → Option Tag → List ℕ
counted counts None = counts
counted counts (Some t) = slice_set counts t.process (slice_index counts t.process + 1)

-- A source is of a process below this number.
abbrev pub OnlyBelow : ℕ → Option Tag → Type 0
OnlyBelow processes None = Unit {0}
OnlyBelow processes (Some t) = t.process < processes

-- The count of a source's process is below this number.
abbrev pub CountsBelow : ℕ → List ℕ → Option Tag → Type 0
CountsBelow limit counts None = Unit {0}
CountsBelow limit counts (Some t) = slice_index counts t.process < limit

-- By read, so many processes have these counts: how often the fires before fire f used a token of each.
pub record CountedBefore (sources : List (List (Option Tag))) (processes f : ℕ)
    (counts : List (List ℕ)) : Type 0 where
  pub reads : length counts ≡ length sources
  pub each : (k : ℕ) → k < length sources → slice_index_or counts k []
      ≡ map (uses_before (slice_index_or sources k []) f) (range_with_len 0 processes)
