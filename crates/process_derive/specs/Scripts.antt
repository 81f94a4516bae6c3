-- The script of a process: for each of its points, in order, the Gets of what it reads, one Fire, and the Puts of its tokens.
use Rattle.std.specs.Prelude.{ℕ, zero, suc, ◌+◌, ◌-◌, Bool, false, ◌==◌, ◌&&◌, if◌then◌else◌, Option, Some, None, List, [], ◌∷◌, ◌++◌, map, take, length, slice_get, slice_index, slice_index_or}
use Rattle.std.specs.List.{flat_map, sum_by, range_with_len}
use Rattle.std.specs.Option.{option_map, option_and_then}
use Rattle.channel_plan.specs.declared.plans.ChannelPlan.{ChannelPlan}
use Rattle.channel_plan.specs.Plans.{plans_of, sources_at, turn_count}
use Rattle.channel_plan.specs.Tokens.{turns_used}
use Rattle.net_core.specs.declared.network.Event.{Event}
use Rattle.net_core.specs.declared.network.Event.TheVariants.{Get, Fire, Put}
use Rattle.net_core.specs.declared.refs.Ref.{Ref}
use Rattle.net_core.specs.declared.refs.Ref.TheVariants.{Zero, Slot}
use Rattle.reorder_slots.specs.declared.slots.SlotPlan.{SlotPlan}
use Rattle.sanlp.specs.Access.{read_count}
use Rattle.sanlp.specs.declared.nest.Nest.{Nest}
use Rattle.sanlp.specs.declared.nest.Tag.{Tag}

-- Slots

-- how many slots the channels of process p have among these
abbrev pub slots_of : List ChannelPlan → ℕ → ℕ
slots_of plans p = sum_by (λ plan. if plan.reader == p then plan.slots.hold else 0) plans

-- where the slots of channel c begin, whose reader is p: behind those of p's channels with lower numbers
abbrev pub slot_base : List ChannelPlan → ℕ → ℕ → ℕ
slot_base plans p c = slots_of (take c plans) p

-- Uses

-- a use of a channel by a fire: the channel's number, where its slots begin, its plan of slots, and the number of the use
pub record Usage : Type 0 where
  pub channel : ℕ
  pub base : ℕ
  pub slots : SlotPlan
  pub number : ℕ

abbrev pub goes_between : ℕ → ℕ → ℕ → ChannelPlan → Bool
goes_between w p k plan = (plan.writer == w) && (plan.reader == p) && (plan.read == k)

-- the channel from process w to read k of process p, and its number; the first of these channels has number c
abbrev pub channel_from : ℕ → List ChannelPlan → ℕ → ℕ → ℕ → Option (ℕ × ChannelPlan)
channel_from c [] w p k = None
channel_from c (plan ∷ plans) w p k =
    if goes_between w p k plan then Some (c, plan) else channel_from (suc c) plans w p k

-- the use of the channel from process w by fire f of process p for read k, whose sources are these
abbrev pub usage_from : List ChannelPlan → List (Option Tag) → ℕ → ℕ → ℕ → ℕ → Option Usage
usage_from plans sources p k f w =
    option_map (λ found. record {
      channel = found.0;
      base = slot_base plans p found.0;
      slots = found.1.slots;
      number = length (turns_used w (take f sources));
    }) (channel_from 0 plans w p k)

-- what fire f of process p uses for read k, if its source is a point
abbrev pub usage : Nest → ℕ → ℕ → ℕ → Option Usage
usage n p f k =
    option_and_then
    (λ source. option_and_then
    (λ t. usage_from (plans_of n) (sources_at n p k) p k f t.process) source)
    (slice_get (sources_at n p k) f)

-- Events

-- how many Gets of a channel stand before so many of its uses
abbrev pub gets_for_uses : SlotPlan → ℕ → ℕ
gets_for_uses slots zero = 0
gets_for_uses slots (suc uses) = slice_index slots.gets_before uses

-- the Gets that a use adds: those numbered from the Gets of the uses before it on
abbrev pub gets_of : Option Usage → List Event
gets_of None = []
gets_of (Some u) =
    let done = gets_for_uses u.slots u.number in
    map (λ m. Get u.channel (u.base + slice_index u.slots.slot_of_get m))
    (range_with_len done (gets_for_uses u.slots (suc u.number) - done))

-- what a fire names for a use: Zero, or the slot in which it finds its token
abbrev pub ref_of : Option Usage → Ref
ref_of None = Zero
ref_of (Some u) = Slot (u.base + slice_index u.slots.slot_of_use u.number)

-- one Put for each channel of which turn f of process p is a token; the first of these channels has number c
abbrev pub puts_from : ℕ → List ChannelPlan → ℕ → ℕ → List Event
puts_from c [] p f = []
puts_from c (plan ∷ plans) p f =
    if (plan.writer == p) && slice_index_or plan.is_token f false
    then Put c ∷ puts_from (suc c) plans p f else puts_from (suc c) plans p f

-- the events of point f of process p: by read the Gets, one Fire with one reference for each read, and by
-- channel the Puts
abbrev pub point_events : Nest → ℕ → ℕ → List Event
point_events n p f =
    let usages = map (usage n p f) (range_with_len 0 (read_count n p)) in
    flat_map gets_of usages ++ Fire (map ref_of usages) ∷ puts_from 0 (plans_of n) p f

-- the events of all points of process p, in order
abbrev pub script : Nest → ℕ → List Event
script n p = flat_map (point_events n p) (range_with_len 0 (turn_count n p))
