-- The design of a network as registers: what its nodes and channels keep, and what an edge of the clock does to them.
--
-- At an edge each node and each channel goes by what the registers held before it, and all change at once.
use Rattle.std.specs.Prelude.{ℕ, zero, suc, Bool, true, false, ◌&&◌, nat_lt, if◌then◌else◌, Option, Some, None, List, [], ◌++◌, length, drop, slice_set, replicate, option_to_list}
use Rattle.std.specs.Option.{option_map_or}
use Rattle.net_core.specs.declared.network.Event.{Event}
use Rattle.net_core.specs.declared.network.Event.TheVariants.{Get, Fire, Put}
use Rattle.net_core.specs.Machine.{Net, Rule, front}
use Rattle.net_core.specs.Shape.{is_get, is_put}
use Rattle.repeat_sequencer.specs.declared.sequencer.Sequencer.{Sequencer}
use Rattle.repeat_sequencer.specs.Steps.{State, at_start, item_at, step}

-- a sequencer for each node, which says where it is in its script
abbrev pub Controls : Type 0
Controls = ℕ → Sequencer Event

-- The registers of a node: the counters of its sequencer, its slots, how often it has fired, and the value fired last. A slot
-- that was never filled has none, and neither has a node that never fired.
pub record Registers (T : Type 0) : Type 0 where
  pub control : State
  pub slots : List (Option T)
  pub turn : ℕ
  pub fired : Option T

-- the registers of each node, and the tokens that each channel holds, the oldest first
pub record Design (T : Type 0) : Type 0 where
  pub node : ℕ → Registers T
  pub fifo : ℕ → List T

-- behind a reset every sequencer stands at its start, and all else is empty
abbrev pub behind_reset : {T : Type 0} → Net → Controls → Design T
behind_reset n controls = record {
  node = λ p. record {
    control = at_start (controls p);
    slots = replicate (n.slots p) None;
    turn = 0;
    fired = None;
  };
  fifo = λ c. [];
}

-- Wires

-- the event at which a node stands, or none at its script's end
abbrev pub event_at : {T : Type 0} → Controls → Design T → ℕ → Option Event
event_at controls d p = item_at (controls p) (d.node p).control

-- the same where node p may step if `may p`, and none for one that is held back
abbrev pub event_if : {T : Type 0} → Controls → (ℕ → Bool) → Design T → ℕ → Option Event
event_if controls may d p = if may p then event_at controls d p else None

-- whether a channel holds a token, and whether it has room for one more
abbrev pub is_valid : {T : Type 0} → Design T → ℕ → Bool
is_valid d c = nat_lt 0 (length (d.fifo c))

abbrev pub is_ready : {T : Type 0} → Net → Design T → ℕ → Bool
is_ready n d c = nat_lt (length (d.fifo c)) (n.capacity c)

-- whether the reader of a channel asks for its front, and its writer offers a token to it, where nodes stand at these events
abbrev pub asks : Net → (ℕ → Option Event) → ℕ → Bool
asks n events c = option_map_or (is_get c) (events (n.reader c)) false

abbrev pub offers : Net → (ℕ → Option Event) → ℕ → Bool
offers n events c = option_map_or (is_put c) (events (n.writer c)) false

-- what the writer of a channel offers to it: the value that it fired last
abbrev pub token_for : {T : Type 0} → Net → Design T → ℕ → Option T
token_for n d c = (d.node (n.writer c)).fired

-- An edge

-- whether a node that stands at this event steps: a Get needs a token, a Put needs room, a Fire nothing
abbrev pub steps_at : {T : Type 0} → Net → Design T → Option Event → Bool
steps_at n d None = false
steps_at n d (Some (Get c slot)) = is_valid d c
steps_at n d (Some (Fire refs)) = true
steps_at n d (Some (Put c)) = is_ready n d c

-- whether a node steps at the next edge
abbrev pub steps : {T : Type 0} → Net → Controls → Design T → ℕ → Bool
steps n controls d p = steps_at n d (event_at controls d p)

-- what a node fires at this event
abbrev pub fire_at : {T : Type 0} → Rule T → Design T → ℕ → Option Event → Option T
fire_at rule d p None = None
fire_at rule d p (Some (Get c slot)) = None
fire_at rule d p (Some (Fire refs)) = Some (rule p (d.node p).turn refs (d.node p).slots)
fire_at rule d p (Some (Put c)) = None

-- the registers of a node of this sequencer after an event
abbrev pub registers_after : {T : Type 0} → Sequencer Event → Rule T → Design T → ℕ → Event
    → Registers T
registers_after sequencer rule d p (Get c slot) =
    record (d.node p) {
      control = step sequencer (d.node p).control;
      slots = slice_set (d.node p).slots slot (front (d.fifo c));
    }
registers_after sequencer rule d p (Fire refs) =
    record (d.node p) {
      control = step sequencer (d.node p).control;
      turn = suc (d.node p).turn;
      fired = fire_at rule d p (Some (Fire refs));
    }
registers_after sequencer rule d p (Put c) =
    record (d.node p) { control = step sequencer (d.node p).control }

-- the registers of a node that stands at this event, after an edge
abbrev pub node_after : {T : Type 0} → Net → Sequencer Event → Rule T → Design T → ℕ
    → Option Event → Registers T
node_after n sequencer rule d p None = d.node p
node_after n sequencer rule d p (Some e) =
    if steps_at n d (Some e) then registers_after sequencer rule d p e else d.node p

-- A channel of a capacity after an edge at which its front is asked for or not, and a token is offered or not. The front leaves
-- where there is one, and the token comes behind where there was room before the edge; both may be at one edge.
abbrev pub fifo_after : {T : Type 0} → ℕ → Bool → Bool → Option T → List T → List T
fifo_after capacity asked offers token queue =
    (if asked && nat_lt 0 (length queue) then drop 1 queue else queue)
    ++ (if offers && nat_lt (length queue) capacity then option_to_list token else [])

-- The design after an edge at which node p may step if `may p`. One that is held back keeps its registers, and neither asks for a
-- token nor offers one.
abbrev pub edge : {T : Type 0} → Net → Controls → Rule T → (ℕ → Bool) → Design T → Design T
edge n controls rule may d = record {
  node = λ p. node_after n (controls p) rule d p (event_if controls may d p);
  fifo = λ c. fifo_after (n.capacity c) (asks n (event_if controls may d) c)
      (offers n (event_if controls may d) c) (token_for n d c) (d.fifo c);
}

-- Edges

-- the design after so many edges from a reset on, where node p may step at edge k if `may k p`
abbrev pub after_stalls : {T : Type 0} → Net → Controls → Rule T → (ℕ → ℕ → Bool) → ℕ → Design T
after_stalls n controls rule may zero = behind_reset n controls
after_stalls n controls rule may (suc k) =
    edge n controls rule (may k) (after_stalls n controls rule may k)

-- All that node p fires at the first so many edges, in order. Of a sink these are its results, each of which stands at its
-- port behind that edge.
abbrev pub fires_of : {T : Type 0} → Net → Controls → Rule T → (ℕ → ℕ → Bool) → ℕ → ℕ → List T
fires_of n controls rule may p zero = []
fires_of n controls rule may p (suc k) =
    fires_of n controls rule may p k
    ++ option_to_list (fire_at rule (after_stalls n controls rule may k) p
    (event_if controls (may k) (after_stalls n controls rule may k) p))

-- no node is held back at any edge
abbrev pub no_stalls : ℕ → ℕ → Bool
no_stalls k p = true

-- the design after so many edges from a reset on
abbrev pub after_edges : {T : Type 0} → Net → Controls → Rule T → ℕ → Design T
after_edges n controls rule k = after_stalls n controls rule no_stalls k
