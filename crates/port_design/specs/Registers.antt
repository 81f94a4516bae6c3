-- The design of a network whose ports go each at its own pace, as registers: what its processes, ports and channels keep, and what
-- an edge of the clock does to them.
--
-- A port is an end of a channel at a process. At an edge each of them goes by what the registers held before it, and all change at
-- once. A value that was fired may leave by a Put, be overwritten by the next fire, and the slots that this reads be filled anew,
-- all at one edge: so a process may fire at every edge.
use Rattle.std.specs.Prelude.{ℕ, zero, suc, Bool, true, false, ◌&&◌, ◌||◌, ◌==◌, not, nat_lt, if◌then◌else◌, Option, Some, None, List, [], ◌++◌, length, map, find, replicate, is_none, is_some, option_to_list, slice_index_or}
use Rattle.std.specs.List.{filter, list_all, range_with_len}
use Rattle.std.specs.Option.{option_map_or}
use Rattle.net_core.specs.declared.refs.Ref.{Ref}
use Rattle.net_core.specs.Machine.{Net, Rule, front}
use Rattle.repeat_sequencer.specs.declared.sequencer.Sequencer.{Sequencer}
use Rattle.repeat_sequencer.specs.Steps.{State, at_start, item_at, step}
use Rattle.design_clocks.specs.Registers.{fifo_after}
use Rattle.port_items.specs.declared.items.GetItem.{GetItem}
use Rattle.port_items.specs.declared.items.PutItem.{PutItem}
use Rattle.port_items.specs.Items.{begins_with_fire, get_items}

-- a sequencer for the fires of each process, and for each channel one for its Gets, at its reader, and one for its Puts, at its
-- writer
pub record Controls : Type 0 where
  pub fires : ℕ → Sequencer (List Ref)
  pub gets : ℕ → Sequencer GetItem
  pub puts : ℕ → Sequencer PutItem

-- The registers of a process: the counters of its sequencer, its slots, how often it has fired, and the value fired last. A slot
-- that was never filled has none, and neither has a process that never fired.
pub record Node (T : Type 0) : Type 0 where
  pub control : State
  pub slots : List (Option T)
  pub turn : ℕ
  pub fired : Option T

-- The registers of a port: the counters of its sequencer, which stands at the next item, and whether it waits. A Get port waits for
-- the fire of the item before, and a Put port for room for the Put of the item before.
pub record Port : Type 0 where
  pub control : State
  pub waits : Bool

-- the registers of each process and of the two ports of each channel, and the tokens that each channel holds, the oldest first
pub record Design (T : Type 0) : Type 0 where
  pub node : ℕ → Node T
  pub getter : ℕ → Port
  pub putter : ℕ → Port
  pub fifo : ℕ → List T

-- whether a Fire of the reader of a channel comes before any Get of this: then the Get port begins behind that Fire's item
abbrev pub begins_behind_fire : Net → ℕ → Bool
begins_behind_fire n c = begins_with_fire (get_items c (n.script (n.reader c)))

-- behind a reset every sequencer stands at its start, and all else is empty
abbrev pub behind_reset : {T : Type 0} → Net → Controls → Design T
behind_reset n controls = record {
  node = λ p. record {
    control = at_start (controls.fires p);
    slots = replicate (n.slots p) None;
    turn = 0;
    fired = None;
  };
  getter = λ c. record { control = at_start (controls.gets c); waits = begins_behind_fire n c };
  putter = λ c. record { control = at_start (controls.puts c); waits = false };
  fifo = λ c. [];
}

-- Wires

-- the channels that a process reads, and those that it writes, ascending
abbrev pub channels_read : Net → ℕ → List ℕ
channels_read n p = filter (λ c. n.reader c == p) (range_with_len 0 n.channels)

abbrev pub channels_written : Net → ℕ → List ℕ
channels_written n p = filter (λ c. n.writer c == p) (range_with_len 0 n.channels)

-- whether a channel holds a token, and whether it has room for one more
abbrev pub is_valid : {T : Type 0} → Design T → ℕ → Bool
is_valid d c = nat_lt 0 (length (d.fifo c))

abbrev pub is_ready : {T : Type 0} → Net → Design T → ℕ → Bool
is_ready n d c = nat_lt (length (d.fifo c)) (n.capacity c)

-- the items at which the sequencers of a process and of a channel's two ports stand, or none at their ends
abbrev pub refs_at : {T : Type 0} → Controls → Design T → ℕ → Option (List Ref)
refs_at controls d p = item_at (controls.fires p) (d.node p).control

abbrev pub get_at : {T : Type 0} → Controls → Design T → ℕ → Option GetItem
get_at controls d c = item_at (controls.gets c) (d.getter c).control

abbrev pub put_at : {T : Type 0} → Controls → Design T → ℕ → Option PutItem
put_at controls d c = item_at (controls.puts c) (d.putter c).control

-- what the writer of a channel offers to it: the value that it fired last
abbrev pub token_for : {T : Type 0} → Net → Design T → ℕ → Option T
token_for n d c = (d.node (n.writer c)).fired

-- Puts

-- whether a Put port puts at the next edge, and whether nothing is left to be put behind it
abbrev pub puts : {T : Type 0} → Net → Design T → ℕ → Bool
puts n d c = (d.putter c).waits && is_ready n d c

abbrev pub is_clear : {T : Type 0} → Net → Design T → ℕ → Bool
is_clear n d c = not (d.putter c).waits || is_ready n d c

-- Fires

-- whether an item of a Put port begins with a Fire
abbrev pub is_at_fire : Option PutItem → Bool
is_at_fire item = option_map_or (λ i. i.fire) item false

-- whether the Put port of a channel lets its process fire: all that the process fired before is put to the channel
abbrev pub lets_fire : {T : Type 0} → Net → Controls → Design T → ℕ → Bool
lets_fire n controls d c = is_clear n d c && is_at_fire (put_at controls d c)

-- whether all ports of a process let it fire: those of its Gets wait for that
abbrev pub may_fire : {T : Type 0} → Net → Controls → Design T → ℕ → Bool
may_fire n controls d p =
    list_all (λ c. (d.getter c).waits) (channels_read n p)
    && list_all (lets_fire n controls d) (channels_written n p)

-- the references of the fire that a process makes at the next edge, where process p may fire if `may p`, or none
abbrev pub refs_fired : {T : Type 0} → Net → Controls → (ℕ → Bool) → Design T → ℕ → Option (List Ref)
refs_fired n controls may d p =
    if may p && may_fire n controls d p then refs_at controls d p else None

abbrev pub fires : {T : Type 0} → Net → Controls → (ℕ → Bool) → Design T → ℕ → Bool
fires n controls may d p = is_some (refs_fired n controls may d p)

-- the value that these references give
abbrev pub value_of : {T : Type 0} → Rule T → Design T → ℕ → List Ref → T
value_of rule d p refs = rule p (d.node p).turn refs (d.node p).slots

-- Gets

-- whether a Get port goes on at the next edge: it doesn't wait for a fire, or that is made
abbrev pub is_free : {T : Type 0} → Net → Controls → (ℕ → Bool) → Design T → ℕ → Bool
is_free n controls may d c = not (d.getter c).waits || fires n controls may d (n.reader c)

-- the slot for which a Get port asks a token at the next edge, or none
abbrev pub slot_asked : {T : Type 0} → Net → Controls → (ℕ → Bool) → Design T → ℕ → Option ℕ
slot_asked n controls may d c =
    if is_free n controls may d c
    then option_map_or (λ item. item.get) (get_at controls d c) None
    else None

abbrev pub asks : {T : Type 0} → Net → Controls → (ℕ → Bool) → Design T → ℕ → Bool
asks n controls may d c = is_some (slot_asked n controls may d c)

-- whether it gets a token, and whether into this slot
abbrev pub gets : {T : Type 0} → Net → Controls → (ℕ → Bool) → Design T → ℕ → Bool
gets n controls may d c = asks n controls may d c && is_valid d c

abbrev pub fills : {T : Type 0} → Net → Controls → (ℕ → Bool) → Design T → ℕ → ℕ → Bool
fills n controls may d slot c =
    option_map_or (λ s. s == slot) (slot_asked n controls may d c) false && is_valid d c

-- An edge

-- a slot of a process after an edge: it has the front of a channel that is got into it, if there is one
abbrev pub slot_after : {T : Type 0} → Net → Controls → (ℕ → Bool) → Design T → ℕ → ℕ → Option T
slot_after n controls may d p slot =
    option_map_or (λ c. front (d.fifo c)) (find (fills n controls may d slot) (channels_read n p))
    (slice_index_or (d.node p).slots slot None)

abbrev pub slots_after : {T : Type 0} → Net → Controls → (ℕ → Bool) → Design T → ℕ → List (Option T)
slots_after n controls may d p =
    map (slot_after n controls may d p) (range_with_len 0 (length (d.node p).slots))

-- the registers of a process that fires by these references, or doesn't
abbrev pub node_after : {T : Type 0} → Sequencer (List Ref) → Rule T → Design T → ℕ → List (Option T)
    → Option (List Ref) → Node T
node_after sequencer rule d p slots None = record (d.node p) { slots = slots }
node_after sequencer rule d p slots (Some refs) = record {
  control = step sequencer (d.node p).control;
  slots = slots;
  turn = suc (d.node p).turn;
  fired = Some (value_of rule d p refs);
}

-- the registers of a Get port that stands at this item: it takes the item where it is free, and gets a token or needs none
abbrev pub getter_after : Sequencer GetItem → Bool → Bool → Port → Option GetItem → Port
getter_after sequencer free valid port None = record port { waits = not free }
getter_after sequencer free valid port (Some item) =
    if free && (is_none item.get || valid)
    then record { control = step sequencer port.control; waits = item.fire }
    else record port { waits = not free }

-- The registers of a Put port that stands at this item: it takes one with a Fire where its process fires, and one without where
-- nothing is left to be put.
abbrev pub putter_after : Sequencer PutItem → Bool → Bool → Port → Option PutItem → Port
putter_after sequencer clear fires port None = record port { waits = not clear }
putter_after sequencer clear fires port (Some item) =
    if clear && (fires || not item.fire)
    then record { control = step sequencer port.control; waits = item.put }
    else record port { waits = not clear }

-- The design after an edge at which process p may fire if `may p`. What leaves a channel and comes to it is told as in a design
-- with one control for each process.
abbrev pub edge : {T : Type 0} → Net → Controls → Rule T → (ℕ → Bool) → Design T → Design T
edge n controls rule may d = record {
  node = λ p.
      node_after (controls.fires p) rule d p (slots_after n controls may d p)
      (refs_fired n controls may d p);
  getter = λ c.
      getter_after (controls.gets c) (is_free n controls may d c) (is_valid d c) (d.getter c)
      (get_at controls d c);
  putter = λ c.
      putter_after (controls.puts c) (is_clear n d c) (fires n controls may d (n.writer c))
      (d.putter c) (put_at controls d c);
  fifo = λ c.
      fifo_after (n.capacity c) (asks n controls may d c) (d.putter c).waits (token_for n d c)
      (d.fifo c);
}

-- Edges

-- the design after so many edges from a reset on, where process p may fire at edge k if `may k p`
abbrev pub after_stalls : {T : Type 0} → Net → Controls → Rule T → (ℕ → ℕ → Bool) → ℕ → Design T
after_stalls n controls rule may zero = behind_reset n controls
after_stalls n controls rule may (suc k) =
    edge n controls rule (may k) (after_stalls n controls rule may k)

-- all that process p fires at the first so many edges, in order
abbrev pub fires_of : {T : Type 0} → Net → Controls → Rule T → (ℕ → ℕ → Bool) → ℕ → ℕ → List T
fires_of n controls rule may p zero = []
fires_of n controls rule may p (suc k) =
    fires_of n controls rule may p k
    ++ map (value_of rule (after_stalls n controls rule may k) p)
    (option_to_list (refs_fired n controls (may k) (after_stalls n controls rule may k) p))

-- no process is held back at any edge
abbrev pub no_stalls : ℕ → ℕ → Bool
no_stalls k p = true

-- the design after so many edges from a reset on
abbrev pub after_edges : {T : Type 0} → Net → Controls → Rule T → ℕ → Design T
after_edges n controls rule k = after_stalls n controls rule no_stalls k
