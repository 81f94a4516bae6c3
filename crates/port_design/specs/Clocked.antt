-- The design beside the clocked run of the ports.
use Rattle.std.specs.Prelude.{◌≡◌, ◌<◌, ◌≤◌, ◌↔◌, ◌||◌, ℕ, ◌-◌, ℤ, Bool, true, false, Some, None, List, length, drop, slice_get}
use Rattle.sanlp.specs.declared.nest.Nest.{Nest}
use Rattle.sanlp.specs.WellFormed.{output_numbers}
use Rattle.net_core.specs.declared.refs.Ref.{Ref}
use Rattle.net_core.specs.declared.refs.Ref.TheVariants.{Slot}
use Rattle.net_core.specs.declared.network.Event.{Event}
use Rattle.net_core.specs.declared.network.Event.TheVariants.{Get}
use Rattle.net_core.specs.Machine.{Net, Rule, front, last_of}
use Rattle.net_core.specs.Shape.{fires as fires_before, is_fire, is_get, is_put}
use Rattle.net_core.specs.Sound.{sink_lists_from}
use Rattle.repeat_sequencer.specs.declared.sequencer.Sequencer.{Sequencer}
use Rattle.repeat_sequencer.specs.Steps as sequencer
use Rattle.port_items.specs.declared.items.GetItem.{GetItem}
use Rattle.port_items.specs.declared.items.PutItem.{PutItem}
use Rattle.port_items.specs.Items.{begins_with_fire, begins_with_put, fire_if, fire_items, get_items_before, port_gets, put_items, without_fire, without_put}
use Rattle.port_runs.specs.Ports.{PortState}
use Rattle.port_clocks.specs.PortClocks.{after_port_clocks, port_clocks}
use Rattle.port_design.specs.Registers.{Controls, Design, Node, Port, after_edges, begins_behind_fire, fires, fires_of, get_at, gets, no_stalls, put_at, puts, refs_at, refs_fired, token_for}

-- a sequencer gives these items from a state on, one at each step, and then stands at its end
abbrev pub GivesFrom : {T : Type 0} → Sequencer T → sequencer.State → List T → Type 0
GivesFrom control from items =
    sequencer.Gives control (sequencer.step control) from items (sequencer.at_end control)

-- each sequencer gives from its start the items of its port, or the fires of its process
pub record GiveItems (n : Net) (controls : Controls) : Type 0 where
  pub fires : (p : ℕ)
      → GivesFrom (controls.fires p) (sequencer.at_start (controls.fires p))
      (fire_items (n.script p))
  pub gets : (c : ℕ)
      → GivesFrom (controls.gets c) (sequencer.at_start (controls.gets c))
      (port_gets c (n.script (n.reader c)))
  pub puts : (c : ℕ)
      → GivesFrom (controls.puts c) (sequencer.at_start (controls.puts c))
      (put_items c (n.script (n.writer c)))

-- Between two Fires that follow one another no two channels are got into one slot.
abbrev pub HasSlotsApart : Net → Type 0
HasSlotsApart n =
    (p j k c d slot : ℕ) → slice_get (n.script p) j ≡ Some (Get c slot)
    → slice_get (n.script p) k ≡ Some (Get d slot) → fires_before n p j ≡ fires_before n p k
    → c ≡ d

-- Where registers are in a script

-- of the events of a kind just those before this place of a script have come
pub record HasPassed (kind : Event → Bool) (script : List Event) (has_come : ℕ → Bool) (place : ℕ)
    : Type 0 where
  pub before : (k : ℕ) (e : Event) → k < place → slice_get script k ≡ Some e → kind e ≡ true
      → has_come k ≡ true
  pub behind : (k : ℕ) (e : Event) → place ≤ k → slice_get script k ≡ Some e → kind e ≡ true
      → has_come k ≡ false

-- what a port sees of a script: the Gets or the Puts of its channel, and all Fires
abbrev pub is_get_or_fire : ℕ → Event → Bool
is_get_or_fire c e = is_get c e || is_fire e

abbrev pub is_put_or_fire : ℕ → Event → Bool
is_put_or_fire c e = is_put c e || is_fire e

-- The registers of a process stand for its part of a state: its sequencer gives the fires that haven't come, and of all that it
-- fired they have the number and the last.
pub record NodeStands {T : Type 0} (n : Net) (control : Sequencer (List Ref)) (s : PortState T)
    (p : ℕ) (node : Node T) : Type 0 where
  pub place : ℕ
  pub passed : HasPassed is_fire (n.script p) (s.has_come p) place
  pub gives : GivesFrom control node.control (fire_items (drop place (n.script p)))
  pub slots : node.slots ≡ (s.run.local p).slots
  pub turn : node.turn ≡ length (s.run.local p).kept
  pub fired : node.fired ≡ front (last_of (s.run.local p).kept)

-- the items of the Get port of a channel from a place of its script on
abbrev pub gets_from : Net → ℕ → ℕ → List GetItem
gets_from n c place =
    get_items_before c (fire_if (begins_behind_fire n c)) (drop place (n.script (n.reader c)))

-- A Get port waits exactly where a Fire is next, and its sequencer gives what comes behind that.
pub record GetterStands {T : Type 0} (n : Net) (control : Sequencer GetItem) (s : PortState T)
    (c : ℕ) (port : Port) : Type 0 where
  pub place : ℕ
  pub passed : HasPassed (is_get_or_fire c) (n.script (n.reader c)) (s.has_come (n.reader c)) place
  pub waits : port.waits ≡ begins_with_fire (gets_from n c place)
  pub gives : GivesFrom control port.control (without_fire (gets_from n c place))

-- the items of the Put port of a channel from a place of its script on
abbrev pub puts_from : Net → ℕ → ℕ → List PutItem
puts_from n c place = put_items c (drop place (n.script (n.writer c)))

-- A Put port waits exactly where a Put is next, and its sequencer gives what comes behind that.
pub record PutterStands {T : Type 0} (n : Net) (control : Sequencer PutItem) (s : PortState T)
    (c : ℕ) (port : Port) : Type 0 where
  pub place : ℕ
  pub passed : HasPassed (is_put_or_fire c) (n.script (n.writer c)) (s.has_come (n.writer c)) place
  pub waits : port.waits ≡ begins_with_put (puts_from n c place)
  pub gives : GivesFrom control port.control (without_put (puts_from n c place))

-- The design stands for a state of the ports: which events have come is told by where the sequencers are, and the slots, the
-- values fired and the queues are those of the state.
pub record StandsFor {T : Type 0} (n : Net) (controls : Controls) (s : PortState T) (d : Design T)
    : Type 0 where
  pub nodes : (p : ℕ) → NodeStands n (controls.fires p) s p (d.node p)
  pub getters : (c : ℕ) → GetterStands n (controls.gets c) s c (d.getter c)
  pub putters : (c : ℕ) → PutterStands n (controls.puts c) s c (d.putter c)
  pub queues : (c : ℕ) → d.fifo c ≡ s.run.queue c

-- The design does at each edge what the clocked run of the ports does at each clock, where no process is held back.
pub record RunsByPortClock {T : Type 0} (n : Net) (controls : Controls) (rule : Rule T)
    : Type 0 where
  -- after so many edges it stands for the state after so many clocks
  pub design : (k : ℕ)
      → StandsFor n controls (after_port_clocks n rule k) (after_edges n controls rule k)
  -- each process has fired what it has kept
  pub fires : (k p : ℕ)
      → fires_of n controls rule no_stalls p k
      ≡ ((after_port_clocks n rule k).run.local p).kept
  -- what is offered to a channel is there
  pub defined : (k c : ℕ) → ((after_edges n controls rule k).putter c).waits ≡ true
      → (x : T) × (token_for n (after_edges n controls rule k) c ≡ Some x)

-- nothing moves at the next edge: no process fires, no port puts, and none gets
pub record IsAtRest {T : Type 0} (n : Net) (controls : Controls) (d : Design T) : Type 0 where
  pub fires : (p : ℕ) → fires n controls (λ q. true) d p ≡ false
  pub puts : (c : ℕ) → puts n d c ≡ false
  pub gets : (c : ℕ) → gets n controls (λ q. true) d c ≡ false

-- the design is done: each sequencer stands at its end, and no value waits for room
pub record IsDone {T : Type 0} (controls : Controls) (d : Design T) : Type 0 where
  pub fires : (p : ℕ) → refs_at controls d p ≡ None
  pub gets : (c : ℕ) → get_at controls d c ≡ None
  pub puts : (c : ℕ) → put_at controls d c ≡ None
  pub clear : (c : ℕ) → (d.putter c).waits ≡ false

-- The design takes as many clocks as the clocked run of the ports, where no process is held back.
pub record TakesPortClocks {T : Type 0} (n : Net) (controls : Controls) (rule : Rule T)
    : Type 0 where
  -- something moves at each edge before so many, and nothing at a later one
  pub rests : (k : ℕ) → (port_clocks n ≤ k) ↔ IsAtRest n controls (after_edges n controls rule k)
  -- exactly from then on it is done
  pub done : (k : ℕ) → (port_clocks n ≤ k) ↔ IsDone controls (after_edges n controls rule k)
  -- at no time does a channel hold more tokens than its capacity
  pub fits : (k c : ℕ) → length ((after_edges n controls rule k).fifo c) ≤ n.capacity c

-- A process that fires finds a value in each slot that it reads. So no value is wanted of a slot that was never filled, of which
-- hardware has something undefined.
abbrev pub FiresFindValues : {T : Type 0} → Net → Controls → Rule T → Type 0
FiresFindValues {T} n controls rule =
    (k p read slot : ℕ) (refs : List Ref)
    → refs_fired n controls (λ q. true) (after_edges n controls rule k) p ≡ Some refs
    → slice_get refs read ≡ Some (Slot slot)
    → (x : T) × (slice_get ((after_edges n controls rule k).node p).slots slot ≡ Some (Some x))

-- what the sinks have fired at the first so many edges, one list for each declared array, empty where it is no output
abbrev pub results_of : Nest → Net → Controls → Rule ℤ → (ℕ → ℕ → Bool) → ℕ → List (List ℤ)
results_of nest n controls rule may k =
    sink_lists_from (λ p. fires_of n controls rule may p k)
    (length nest.statements - length (output_numbers nest.arrays)) nest.arrays
