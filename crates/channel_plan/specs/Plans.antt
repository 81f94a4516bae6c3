-- The channels of a nest, from the sources of its reads.
use Rattle.std.specs.Prelude.{◌≡◌, ◌↔◌, ℕ, Option, List, map, length}
use Rattle.std.specs.List.{flat_map, range_with_len}
use Rattle.channel_class.specs.Classes.{class_of}
use Rattle.channel_class.specs.declared.UseOrder.TheVariants.{InOrder}
use Rattle.reorder_slots.specs.Slots.{gets_before, hold_of, slots_of_gets, slots_of_uses}
use Rattle.reorder_slots.specs.declared.slots.SlotPlan.{SlotPlan}
use Rattle.sanlp.specs.Access.{read_count}
use Rattle.sanlp.specs.declared.nest.Nest.{Nest}
use Rattle.sanlp.specs.declared.nest.Tag.{Tag}
use Rattle.sanlp.specs.Laws.{entries_of}
use Rattle.sanlp.specs.Trace.{trace}
use Rattle.source_tree.specs.Sources.{read_sources}
use Rattle.channel_plan.specs.Tokens.{tokens_among, tokens_below, turns_used, uses_of, writers_of}
use Rattle.channel_plan.specs.declared.plans.ChannelPlan.{ChannelPlan}

-- the source of read k of process p at each of its fires: the tag of the last writer, or none
abbrev pub sources_at : Nest → ℕ → ℕ → List (Option Tag)
sources_at n p k = read_sources n (trace n) p k

abbrev pub slot_plan : List ℕ → SlotPlan
slot_plan uses =
    record {
      gets_before = gets_before uses;
      slot_of_get = slots_of_gets uses;
      slot_of_use = slots_of_uses uses;
      hold = hold_of uses;
    }

-- how many turns process w has
abbrev pub turn_count : Nest → ℕ → ℕ
turn_count n w = length (entries_of (trace n) w)

-- the channel over which read k of process p gets what process w wrote
abbrev pub plan_of : Nest → ℕ → ℕ → ℕ → ChannelPlan
plan_of n p k w =
    let used = turns_used w (sources_at n p k) in
    record {
      reader = p;
      read = k;
      writer = w;
      is_token = tokens_among (turn_count n w) used;
      tokens = tokens_below used (turn_count n w);
      class = class_of (uses_of used);
      slots = slot_plan (uses_of used);
    }

-- the channels of read k of process p, by writer
abbrev pub plans_at : Nest → ℕ → ℕ → List ChannelPlan
plans_at n p k = map (plan_of n p k) (writers_of (length n.statements) (sources_at n p k))

-- the channels of the nest: by reader, then read, then writer
unfoldable pub plans_of : Nest → List ChannelPlan
plans_of n =
    flat_map (λ p. flat_map (plans_at n p) (range_with_len 0 (read_count n p)))
    (range_with_len 0 (length n.statements))

-- One slot is enough for this channel exactly where its class is in order.
abbrev pub HasOneSlotInOrder : ChannelPlan → Type 0
HasOneSlotInOrder plan = (plan.slots.hold ≡ 1) ↔ (plan.class.order ≡ InOrder)
